-- What the two sides of a front have of each slot.
use Rattle.std.specs.Prelude.{ℕ, Bool, Option, List, map, length, count_by, is_some}
use Rattle.std.specs.List.{sum_by}
use Rattle.worker_core.specs.Workers.{Lanes}
use Rattle.worker_core.specs.Desks.{Desk, lanes_of}
use Rattle.worker_core.specs.declared.traveller.Traveller.{Ghosts}
use Rattle.worker_core.specs.DataDesks.{DataDesk}
use Rattle.worker_core.specs.declared.data_half.DataTraveller as data_half
use Rattle.migration.specs.declared.place.ControlPlace.{ControlPlace}
use Rattle.migration.specs.declared.side.Side.{Side}
use Rattle.migration.specs.Words as controls
use Rattle.migration.specs.Places as control_place
use Rattle.migration.specs.declared.data_place.DataPlace.{DataPlace}
use Rattle.migration.specs.declared.data_side.DataSide.{DataSide}
use Rattle.migration.specs.DataWords as datas
use Rattle.migration.specs.DataPlaces as data_place
use Rattle.front_core.specs.Kept.{Load}

-- the places and desks of both, how often they were asked, and the room of a queue
pub record Both (H F I : Type 0) : Type 0 where
  pub control_places : List (Option (ControlPlace H))
  pub control_desks : List (Desk H)
  pub control_asked : ℕ
  pub places : List (Option (DataPlace F I))
  pub desks : List (DataDesk F I)
  pub asked : ℕ
  pub queue_room : ℕ

module _ {H N F M I : Type 0} {g : Ghosts H N} {f : data_half.Ghosts F M I} where
  abbrev pub both_of : Side H N g → DataSide F M I f → Both H F I
  both_of control data_half = record {
    control_places = controls.places_of control;
    control_desks = controls.desks_of control;
    control_asked = controls.asked_of control;
    places = datas.places_of data_half;
    desks = datas.desks_of data_half;
    asked = datas.asked_of data_half;
    queue_room = datas.queue_room_of data_half;
  }

-- of a slot: the names of its two halves, where it is admitted, the items that were accepted, whether it moved, and
-- whether its items are parked
pub record View (N M I : Type 0) : Type 0 where
  pub control : Option N
  pub data_half : Option M
  pub accepted : List I
  pub moved : Bool
  pub parks : Bool

module _ {H N F M I : Type 0} (control_name : H → N) (data_name : F → M) where
  abbrev pub view_of : Both H F I → ℕ → View N M I
  view_of both slot = record {
    control = control_place.name_at control_name (control_place.place_at both.control_places slot);
    data_half = data_place.name_at data_name (data_place.place_at both.places slot);
    accepted = data_place.accepted_at (data_place.place_at both.places slot);
    moved = data_place.moved_at (data_place.place_at both.places slot);
    parks = data_place.parks_at (data_place.place_at both.places slot);
  }

module _ {H F M I : Type 0} (data_name : F → M) where
  -- how many items were accepted, how many slots are admitted, and how often the side of data halves was asked
  abbrev pub load_of : Both H F I → Load
  load_of both = record {
    accepted = sum_by (λ (items : List I). length items) (datas.accepts_of both.places);
    admitted = count_by (λ (name : Option M). is_some name) (data_place.names_of data_name both.places);
    asked = both.asked;
  }

-- the room of each slice's lane
abbrev pub lane_rooms : {H F I : Type 0} → Both H F I → List ℕ
lane_rooms both = map (λ (lanes : Lanes). lanes.0.room) (lanes_of both.desks)
