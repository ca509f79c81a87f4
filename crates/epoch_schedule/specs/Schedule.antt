-- The schedule of an epoch: what becomes of each line, and where the packets of each slot are handled.
use Rattle.std.specs.Prelude.{ℕ, ◌/◌, ◌%◌, ◌==◌, if◌then◌else◌, List, [], ◌∷◌, fold}
use Rattle.epoch_schedule.specs.Slots.{SlotNow, Met}
use Rattle.epoch_schedule.specs.Halves.{closed}
use Rattle.epoch_schedule.specs.World.{World, Rooms, start, slot_at}
use Rattle.epoch_schedule.specs.ControlTurns.{control_turn}
use Rattle.epoch_schedule.specs.DataTurns.{data_turn}
use Rattle.epoch_schedule.specs.Front.{Asks, Outcome, Done, pumped, line_done}

-- what a line asks, with the turns behind it
pub record Driven : Type 0 where
  pub asks : Asks
  pub turns : List ℕ

-- worker 2i is the control worker of slice i, and worker 2i + 1 its data worker
abbrev pub turned : Rooms → World → ℕ → World
turned rooms world worker =
    if worker % 2 == 0 then control_turn rooms (worker / 2) world else data_turn (worker / 2) world

abbrev pub turned_all : Rooms → World → List ℕ → World
turned_all rooms world turns = fold (turned rooms) world turns

-- a line: the front pumps, does what is asked, and then each of the turns is done in order
abbrev pub line_of : Rooms → (ℕ → ℕ) → World → Driven → Done
line_of rooms bounds world line = line_done rooms bounds (pumped rooms bounds world) line.asks

abbrev pub behind_line : Rooms → (ℕ → ℕ) → World → Driven → World
behind_line rooms bounds world line = turned_all rooms (line_of rooms bounds world line).world line.turns

abbrev pub behind_lines : Rooms → (ℕ → ℕ) → World → List Driven → World
behind_lines rooms bounds world lines = fold (behind_line rooms bounds) world lines

abbrev pub outcomes : Rooms → (ℕ → ℕ) → World → List Driven → List Outcome
outcomes rooms bounds world [] = []
outcomes rooms bounds world (line ∷ lines) =
    (line_of rooms bounds world line).outcome ∷ outcomes rooms bounds (behind_line rooms bounds world line) lines

-- a slot behind the epoch, and what its packets met
abbrev pub slot_behind : Rooms → (ℕ → ℕ) → List Driven → ℕ → SlotNow
slot_behind rooms bounds lines s = closed (slot_at (behind_lines rooms bounds start lines) s)

abbrev pub mets : Rooms → (ℕ → ℕ) → List Driven → ℕ → List Met
mets rooms bounds lines s = (slot_behind rooms bounds lines s).met
