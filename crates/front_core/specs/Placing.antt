-- To which slice the halves of a slot go, and what pumping does.
use Rattle.std.specs.Prelude.{◌≡◌, ℕ, ◌<◌, ◌⊎◌, Bool, length}
use Rattle.worker_core.specs.Homes.{HomeEnded}
use Rattle.worker_core.specs.declared.traveller.Traveller.{Ghosts}
use Rattle.worker_core.specs.declared.data_half.DataTraveller as data_half
use Rattle.migration.specs.declared.side.Side.{Side}
use Rattle.migration.specs.Passes.{stage_at}
use Rattle.migration.specs.Places as control_place
use Rattle.migration.specs.Pumps.{PumpsBySlot}
use Rattle.migration.specs.Sides as control_side
use Rattle.migration.specs.Steps as control_step
use Rattle.migration.specs.Words as controls
use Rattle.migration.specs.declared.data_side.DataSide.{DataSide}
use Rattle.migration.specs.DataPumps.{EachState, NoneLeaves, Pumps}
use Rattle.migration.specs.DataQueues.{EachShortens}
use Rattle.migration.specs.DataSides as data_side
use Rattle.migration.specs.DataSteps.{AtSlot, GoesPlace}
use Rattle.migration.specs.DataWords as datas
use Rattle.front_core.specs.Sides.{Both}

module _ {H F I : Type 0} where
  -- Both halves of a slot are bound for a slice. One that is at another is told to leave it, the control half at a
  -- count, or will be, since that lane of orders was full.
  pub record HalvesGo (slot slice until : ℕ) (old new : Both H F I) : Type 0 where
    pub control_goes : control_step.MovesAt slot slice until old.control_places new.control_places old.control_desks
        new.control_desks
    pub data_goes : AtSlot (GoesPlace slot slice) slot old.places new.places old.desks new.desks

  -- Both halves of a slot were sent to a slice, each unless that lane was full.
  pub record HalvesEnter {N : Type 0} (name : H → N) (hop_of : H → ℕ) (slot slice : ℕ) (moved : Bool) (control : H)
      (data_half : F) (old new : Both H F I) : Type 0 where
    pub control_enters : control_step.Admits name hop_of slot slice 0 control old.control_places new.control_places
        old.control_desks new.control_desks
    pub data_enters : datas.Admits slot slice moved data_half old.places new.places old.desks new.desks

-- Pumping one side: what waits is offered once, by slot, and waits on only where that lane was full; and halves come
-- home from each slice as far as they may, unless none is to come.
module _ {H N : Type 0} {g : Ghosts H N} (name : H → N) (hop_of : H → ℕ) where
  pub record ControlsPump (old new : Side H N g) : Type 0 where
    pub by_slot : PumpsBySlot name hop_of (controls.places_of old) (controls.places_of new) (controls.desks_of old)
        (controls.desks_of new)
    pub full : control_side.AllMetFull (controls.places_of new) (controls.desks_of old) (controls.desks_of new)
    pub home : (slice : ℕ) → slice < length (controls.desks_of old)
        → HomeEnded (length (controls.aside_of new)) (controls.admitted_of new) slice (controls.desks_of old)
        (controls.desks_of new)
        ⊎ ((slot : ℕ) → stage_at (control_place.place_at (controls.places_of old) slot) ≡ 0)

module _ {F M I : Type 0} {f : data_half.Ghosts F M I} where
  pub record DatasPump (old new : DataSide F M I f) : Type 0 where
    pub states : EachState Pumps (datas.places_of old) (datas.places_of new)
    pub drains : EachShortens (datas.places_of old) (datas.places_of new)
    pub full : data_side.AllMetFull (datas.places_of new) (datas.desks_of old) (datas.desks_of new)
    pub queues : data_side.QueuesMetFull (datas.places_of new) (datas.desks_of old) (datas.desks_of new)
    pub home : (slice : ℕ) → slice < length (datas.desks_of old)
        → HomeEnded (length (datas.aside_of new)) (datas.admitted_of new) slice (datas.desks_of old)
        (datas.desks_of new) ⊎ NoneLeaves slice (datas.places_of old)
