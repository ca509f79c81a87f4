-- What is kept beside the numbers of slots and workers, so that only those are visited that may change.
use Rattle.std.specs.Prelude.{ℕ, ◌<◌, List, [], ◌∷◌, length}
use Rattle.epoch_schedule.specs.Slots.{Standing, absent, front, placed, recalled, leaving}
use Rattle.epoch_schedule.specs.World.{World, slot_at}
use Rattle.epoch_schedule.specs.Front.{Asks, nothing, command, packet, move}
use Rattle.epoch_schedule.specs.Busy.{AreBusyBut}
use Rattle.epoch_schedule.specs.Setups.{EpochSetup, bounds_of}
use Rattle.epoch_schedule.specs.Waiting.{AreWaiting, waits_of}
use Rattle.epoch_schedule.specs.declared.waiting.WaitingSlots.{WaitingSlots}
use Rattle.epoch_schedule.specs.declared.waiting.Pass.{Pass}

-- data halves are on slices that have a worker
abbrev pub IsWithin : ℕ → Standing → Type 0
IsWithin count absent = Unit {0}
IsWithin count front = Unit {0}
IsWithin count (placed slice) = slice < count
IsWithin count (recalled slice until) = Unit {0}
IsWithin count leaving = Unit {0}

abbrev pub AreWithin : World → Type 0
AreWithin world = (s : ℕ) → IsWithin (length world.datas) (slot_at world s).data_half

-- Each slot stands where it is found by what it wants of a pass; each control half whose turn may change something is
-- busy. So all slots but some.
pub record AreListedBut (but : List ℕ) (setup : EpochSetup) (waiting : WaitingSlots) (world : World) : Type 0 where
  pub waits : (of : Pass) → AreWaiting of (bounds_of setup) but (waits_of of waiting) world
  pub busy : AreBusyBut setup.rooms.room but waiting.busy.items world
  pub within : AreWithin world

abbrev pub AreListed : EpochSetup → WaitingSlots → World → Type 0
AreListed setup waiting world = AreListedBut [] setup waiting world

-- the slots of a line
abbrev pub slots_asked : Asks → List ℕ
slots_asked nothing = []
slots_asked (command s) = s ∷ []
slots_asked (packet s) = s ∷ []
slots_asked (move s slice) = s ∷ []
