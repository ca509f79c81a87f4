-- A slot moved.
use Rattle.std.proofs.Common.{◌≡◌, ℕ, ◌+◌, true, true≢false, is_some, List, length, refl, sym, ap, ◌∙◌}
use Rattle.std.specs.Prelude.{Option, Some, None, count_by}
use Rattle.std.specs.List.{sum_by}
use Rattle.worker_core.specs.Desks.{lanes_of}
use Rattle.migration.specs.declared.place.ControlPlace.{ControlPlace}
use Rattle.migration.specs.Places as control_place
use Rattle.migration.specs.Steps.{MovesAt}
use Rattle.worker_core.specs.DataDesks.{DataDesk}
use Rattle.migration.specs.declared.data_place.DataPlace.{DataPlace}
use Rattle.migration.specs.DataWords as datas
use Rattle.migration.specs.DataPlaces as data_place
use Rattle.migration.specs.DataSteps.{AtSlot, Moved, GoesPlace}
use Rattle.front_core.specs.Sides.{Both, view_of}
use Rattle.front_core.specs.SidesSteps.{SlotMoves}
use Rattle.front_core.proofs.Lists.{same_at}
use Rattle.front_core.proofs.SidesSettling.{views_named, place_here, place_other}

goes_moved : {F I : Type 0} (slot slice : ℕ) (was is : Option (DataPlace F I)) (desks now : List (DataDesk F I))
    → data_place.is_admitted was ≡ true → GoesPlace slot slice was is desks now → data_place.moved_at is ≡ true
goes_moved slot slice None is desks now admitted goes = absurd (true≢false (sym admitted))
goes_moved slot slice (Some before) is desks now admitted goes = ap data_place.moved_at goes.1 ∙ goes.2

pub is_admitted : {F M I : Type 0} (name : F → M) (place : Option (DataPlace F I))
    → is_some (data_place.name_at name place) ≡ true → data_place.is_admitted place ≡ true
is_admitted name None some = some
is_admitted name (Some place) some = refl

pub control_admitted : {H N : Type 0} (name : H → N) (place : Option (ControlPlace H))
    → is_some (control_place.name_at name place) ≡ true → control_place.is_admitted place ≡ true
control_admitted name None some = some
control_admitted name (Some place) some = refl

module _ {H N F M I : Type 0} (control_name : H → N) (data_name : F → M) (slot_of : F → ℕ) (item_slot : I → ℕ)
    (handled : F → List I) where
  pub moved : (old new : Both H F I) (slot slice until : ℕ)
      → is_some (view_of control_name data_name old slot).data_half ≡ true
      → MovesAt slot slice until old.control_places new.control_places old.control_desks new.control_desks
      → control_place.names_of control_name new.control_places ≡ control_place.names_of control_name old.control_places
      → lanes_of new.control_desks ≡ lanes_of old.control_desks → new.control_asked ≡ old.control_asked + 1
      → AtSlot (Moved slot_of item_slot handled slot slice) slot old.places new.places old.desks new.desks
      → data_place.names_of data_name new.places ≡ data_place.names_of data_name old.places
      → datas.accepts_of new.places ≡ datas.accepts_of old.places
      → lanes_of new.desks ≡ lanes_of old.desks → new.asked ≡ old.asked + 1 → new.queue_room ≡ old.queue_room
      → SlotMoves control_name data_name slot slice until old new
  moved old new slot slice until admitted control_moves control_names control_lanes control_asked moves names accepts
      lanes asked queue =
      let place : Option (DataPlace F I) = moves.0 in
      let here : data_place.place_at new.places slot ≡ place =
      ap (λ ps. data_place.place_at ps slot) moves.2 ∙ place_here old.places slot place moves.1 in
      record {
        goes = record { control_goes = control_moves; data_goes = (place, moves.1, moves.2, moves.3.moves) };
        others = λ other ne.
            views_named control_name data_name (control_place.place_at old.control_places other)
            (control_place.place_at new.control_places other) (data_place.place_at old.places other)
            (data_place.place_at new.places other)
            (same_at (control_place.name_at control_name) old.control_places new.control_places other None control_names)
            (ap (λ ps. data_place.place_at ps other) moves.2 ∙ place_other old.places slot other place ne);
        sides = record { control_lanes = control_lanes; data_lanes = lanes; queues = queue };
        control = same_at (control_place.name_at control_name) old.control_places new.control_places slot None
            control_names;
        data_half = same_at (data_place.name_at data_name) old.places new.places slot None names;
        accepted = same_at data_place.accepted_at old.places new.places slot None accepts;
        moved = ap data_place.moved_at here
            ∙ goes_moved slot slice (data_place.place_at old.places slot) place old.desks new.desks
            (is_admitted data_name (data_place.place_at old.places slot) admitted) moves.3.moves;
        load_accepted = ap (sum_by (λ (items : List I). length items)) accepts;
        load_admitted = ap (count_by (λ (name : Option M). is_some name)) names;
        asked = asked;
        control_asked = control_asked;
      }
