-- Both sides were pumped.
use Rattle.std.proofs.Common.{◌≡◌, ℕ, false, is_some, List, length}
use Rattle.std.specs.Prelude.{Option, None, count_by}
use Rattle.std.specs.List.{sum_by}
use Rattle.worker_core.specs.Desks.{lanes_of}
use Rattle.migration.specs.declared.place.ControlState.{ControlState}
use Rattle.migration.specs.Passes.{stage}
use Rattle.migration.specs.Places as control_place
use Rattle.migration.specs.DataWords as datas
use Rattle.migration.specs.DataPlaces as data_place
use Rattle.front_core.specs.Sides.{Both}
use Rattle.front_core.specs.SidesSteps.{Settles}
use Rattle.front_core.proofs.Lists.{same_at}

module _ {H N F M I : Type 0} (control_name : H → N) (data_name : F → M) where
  pub pumped : (old new : Both H F I)
      → control_place.names_of control_name new.control_places ≡ control_place.names_of control_name old.control_places
      → lanes_of new.control_desks ≡ lanes_of old.control_desks → new.control_asked ≡ old.control_asked
      → data_place.names_of data_name new.places ≡ data_place.names_of data_name old.places
      → datas.accepts_of new.places ≡ datas.accepts_of old.places
      → datas.moves_of new.places ≡ datas.moves_of old.places
      → lanes_of new.desks ≡ lanes_of old.desks → new.asked ≡ old.asked → new.queue_room ≡ old.queue_room
      → ((slot : ℕ) → data_place.parks_at (data_place.place_at old.places slot) ≡ false
      → data_place.parks_at (data_place.place_at new.places slot) ≡ false)
      → Settles control_name data_name old new
  pumped old new control_names control_lanes control_asked names accepts moves lanes asked queue rests = record {
    views = λ slot. record {
      control = same_at (control_place.name_at control_name) old.control_places new.control_places slot None
          control_names;
      data_half = same_at (data_place.name_at data_name) old.places new.places slot None names;
      accepted = same_at data_place.accepted_at old.places new.places slot None accepts;
      moved = same_at data_place.moved_at old.places new.places slot None moves;
      parks = rests slot;
    };
    sides = record { control_lanes = control_lanes; data_lanes = lanes; queues = queue };
    load = λ i. record {
      accepted = sum_by (λ (items : List I). length items) (accepts i);
      admitted = count_by (λ (name : Option M). is_some name) (names i);
      asked = asked i;
    };
    asked = control_asked;
  }

module _ {H : Type 0} where
  abbrev StateRests : ControlState H → Type 0
  StateRests state = (control_place.is_waiting state ≡ false) × (control_place.waits_for state ≡ None)
      × (stage state ≡ 0)
