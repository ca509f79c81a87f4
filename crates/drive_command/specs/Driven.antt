-- The report of a trace under a schedule.
use Rattle.std.specs.Prelude.{◌≡◌, ℕ, ◌*◌, ◌<◌, ◌≤◌, List, [], ◌∷◌, All, length, replicate}
use Rattle.trace_lines.specs.Epochs.{epochs_of}
use Rattle.trace_lines.specs.Input.{Input}
use Rattle.trace_lines.specs.Line.{Line}
use Rattle.demux.specs.Trace.{Meaning}
use Rattle.lawful_run.specs.Report.{Report}
use Rattle.lawful_run.specs.Setup.{sliced}
use Rattle.lawful_run.specs.Trace.{IsReport, epochs_told, slots_of}
use Rattle.epoch_schedule.specs.World.{Rooms}
use Rattle.epoch_schedule.specs.TurnsTold.{drawn_told, state_after}
use Rattle.epoch_schedule.specs.declared.turns.Turns as run
use Rattle.epoch_schedule.specs.declared.turns.Turns.TheVariants as turns
use Rattle.epoch_drive.specs.Runs.{IsDrivenRun, bounds_behind}

-- Which workers have a turn behind each line: the same ones, or so many that are drawn from a state on. Worker 2i is
-- the control worker of slice i, and worker 2i + 1 its data worker.
pub data Turns : Type 0 where
  listed : List ℕ → Turns
  drawn : (state per : ℕ) → Turns

-- the turns that the code has
abbrev pub turns_in : run.Turns → Turns
turns_in (turns.List workers) = listed workers.items
turns_in (turns.Drawn state per) = drawn state per

-- how many slices there are, the rooms of a subscriber's queues and of a slice's lane, and the turns
pub record Schedule : Type 0 where
  pub slices : ℕ
  pub room : ℕ
  pub lane : ℕ
  pub turns : Turns

-- the turns behind so many lines, one list a line, and how they go on behind these lines
abbrev pub turns_for : Turns → (slices lines : ℕ) → List (List ℕ)
turns_for (listed workers) slices lines = replicate lines workers
turns_for (drawn state per) slices lines = drawn_told (2 * slices) per state lines

abbrev pub turns_past : Turns → (lines : ℕ) → Turns
turns_past (listed workers) lines = listed workers
turns_past (drawn state per) lines = drawn (state_after per state lines) per

-- the turns behind each line, by epoch: drawn ones go on from line to line and from epoch to epoch
abbrev pub turns_by_epoch : Turns → (slices : ℕ) → List (List Line) → List (List (List ℕ))
turns_by_epoch turns slices [] = []
turns_by_epoch turns slices (epoch ∷ epochs) =
    turns_for turns slices (length epoch) ∷ turns_by_epoch (turns_past turns (length epoch)) slices epochs

-- and how they go on behind them
abbrev pub turns_left : Turns → List (List Line) → Turns
turns_left turns [] = turns
turns_left turns (epoch ∷ epochs) = turns_left (turns_past turns (length epoch)) epochs

-- where each slot is bound for behind epochs
abbrev pub bounds_all : (ℕ → ℕ) → List (List Meaning) → ℕ → ℕ
bounds_all bounds [] = bounds
bounds_all bounds (made ∷ epochs) = bounds_all (bounds_behind bounds made) epochs

abbrev pub rooms_in : Schedule → Rooms
rooms_in schedule = record { room = schedule.room; lane = schedule.lane }

-- The report that an input has: its epochs' lines have their turns behind them, and a bad line's note has none.
abbrev pub IsDrivenReport : Schedule → Input → Report → Type 0
IsDrivenReport schedule input report =
    IsDrivenRun (rooms_in schedule) schedule.slices
    (turns_by_epoch schedule.turns schedule.slices (epochs_of input.lines)) (slots_of input)
    (epochs_told schedule.slices input) report

-- listed turns are workers of the slices
abbrev pub AreOfWorkers : (slices : ℕ) → Turns → Type 0
AreOfWorkers slices (listed workers) = All (λ worker. worker < 2 * slices) workers
AreOfWorkers slices (drawn state per) = Unit {0}

-- a schedule is in its ranges
pub record IsInRange (schedule : Schedule) : Type 0 where
  pub some_slices : 1 ≤ schedule.slices
  pub few_slices : schedule.slices ≤ 64
  pub some_room : 1 ≤ schedule.room
  pub small_room : schedule.room ≤ 256
  pub some_lane : 1 ≤ schedule.lane
  pub short_lane : schedule.lane ≤ 16384
  pub workers : AreOfWorkers schedule.slices schedule.turns

-- such a report is a lawful one of so many slices, and of these rooms
abbrev pub DrivenReportsAreLawful : Type 0
DrivenReportsAreLawful = (schedule : Schedule) (input : Input) (report : Report)
    → IsDrivenReport schedule input report
    → IsReport (sliced schedule.slices schedule.room schedule.lane) input report

-- an input has one under a schedule, and no other
abbrev pub EachInputIsDriven : Type 0
EachInputIsDriven = (schedule : Schedule) (input : Input) → (report : Report) × IsDrivenReport schedule input report

abbrev pub OneReportIsDriven : Type 0
OneReportIsDriven = (schedule : Schedule) (input : Input) (one other : Report) → IsDrivenReport schedule input one
    → IsDrivenReport schedule input other → one ≡ other
