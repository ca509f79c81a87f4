-- What stands behind epochs that were driven.
use Rattle.std.specs.Prelude.{◌≡◌, ℕ, ◌+◌, ◌≤◌, ◌%◌, ◌^◌, Bool, Option, List, [], ◌∷◌, ◌++◌, length}
use Rattle.trace_lines.specs.Line.{Line}
use Rattle.trace_lines.specs.declared.bad.LineBad.{LineBad}
use Rattle.demux.specs.Trace.{Meaning, book_of}
use Rattle.lawful_run.specs.Cut.{lines_in}
use Rattle.lawful_run.specs.Merging.{Histories}
use Rattle.lawful_run.specs.Report.{EpochReport}
use Rattle.lawful_run.specs.Run.{behind_all, no_events}
use Rattle.lawful_run.specs.Trace.{meant_epochs, meant_from, open_epoch}
use Rattle.at_rest.specs.Rest.{IsBehind, Rest, RepresentsAll, bound_at}
use Rattle.epoch_schedule.specs.TurnsTold.{AreWorkers}
use Rattle.epoch_schedule.specs.declared.turns.Turns as run
use Rattle.at_rest.specs.Coming.{AreLater, latest_behind}
use Rattle.at_rest.specs.Meant.{AreStanding}
use Rattle.epoch_drive.specs.Taken.{HasTaken}
use Rattle.epoch_drive.specs.declared.gateway.DrivenGateway.{DrivenGateway}
use Rattle.epoch_drive.specs.declared.kept.EpochLines.{EpochLines}
use Rattle.epoch_drive.specs.Driven.{IsDriven}
use Rattle.epoch_drive.specs.Runs.{AreDriven}
use Rattle.trace_run.specs.Entries.{closing_text, epochs_text, lines_text}
use Rattle.trace_run.specs.Noted.{meant_all, noted}
use Rattle.drive_command.specs.Driven.{Schedule, Turns, bounds_all, rooms_in, turns_by_epoch, turns_for, turns_in}
use Rattle.drive_command.specs.Driven.{turns_left}
use Rattle.drive_command.specs.declared.driver.Driver.{Driver}

-- what epochs' lines mean, and the events behind them
abbrev pub meant_in : Schedule → List (List Line) → List (List Meaning)
meant_in schedule closed = meant_epochs schedule.slices [] closed

abbrev pub events_behind : Schedule → List (List Line) → List EpochReport → Histories
events_behind schedule closed told = behind_all no_events (meant_in schedule closed) told

-- each slot begins bound for the slice of its number
abbrev pub start_slices : Schedule → ℕ → ℕ
start_slices schedule slot = slot % schedule.slices

-- these epochs are driven, for as many slots as the book has, or more
abbrev pub DrivesAll : Schedule → List (List Line) → List EpochReport → Type 0
DrivesAll schedule closed told = (slots : ℕ) → length (book_of (lines_in closed)) ≤ slots
    → AreDriven (rooms_in schedule) (start_slices schedule)
    (turns_by_epoch schedule.turns schedule.slices closed) slots 1
    no_events (meant_in schedule closed) told

-- the gateway at rest is what these epochs leave, and the turns go on behind them
pub record Stands (schedule : Schedule) (rest : Rest) (turns : run.Turns) (closed : List (List Line))
    (told : List EpochReport) : Type 0 where
  pub represents : RepresentsAll rest (events_behind schedule closed told)
  pub behind : IsBehind rest (lines_in closed)
  pub bounds : (slot : ℕ) → bound_at rest slot ≡ bounds_all (start_slices schedule) (meant_in schedule closed) slot
  pub same_slices : rest.slices ≡ schedule.slices
  pub same_room : rest.room ≡ schedule.room
  pub same_lane : rest.lane ≡ schedule.lane
  pub goes_on : turns_in turns ≡ turns_left schedule.turns closed
  pub driven : DrivesAll schedule closed told

-- the lines of one more epoch were driven behind them
abbrev pub DrivesNext : Schedule → Rest → Turns → List (List Line) → List EpochReport → List Line → EpochReport → Type 0
DrivesNext schedule rest turns closed told lines now = (slots : ℕ) → length (book_of (lines_in closed ++ lines)) ≤ slots
    → IsDriven (rooms_in schedule) (bound_at rest) (turns_for turns schedule.slices (length lines)) slots
    (1 + length (lines_in closed)) (events_behind schedule closed told)
    (meant_from schedule.slices (lines_in closed) lines) now

-- so the epoch was driven and told
pub record Drives (schedule : Schedule) (old : Rest) (old_turns : run.Turns) (closed : List (List Line))
    (told : List EpochReport) (lines : List Line) (bad : Option LineBad) (n : ℕ) (places : Bool)
    (before after : List ℕ) (new : Rest) (new_turns : run.Turns) : Type 0 where
  pub now : EpochReport
  pub next : DrivesNext schedule old (turns_in old_turns) closed told lines now
  pub stands : Stands schedule new new_turns (closed ++ lines ∷ []) (told ++ now ∷ [])
  pub said : after ≡ before ++ (lines_text places now.lines ++ lines_text places (noted bad n)
      ++ closing_text places now)

-- .. and the gateway is at rest, before the first line of the next one
pub record DroveLines (schedule : Schedule) (start : Rest) (old_turns : run.Turns) (closed : List (List Line))
    (told : List EpochReport) (taken : List Line) (bad : Option LineBad) (n : ℕ) (places : Bool)
    (before after : List ℕ) (gateway : DrivenGateway) (lines : EpochLines) (new_turns : run.Turns) : Type 0 where
  pub rest : Rest
  pub drives : Drives schedule start old_turns closed told taken bad n places before after rest new_turns
  pub opened : HasTaken rest [] gateway lines
  pub latest : rest.latest ≡ latest_behind start.latest taken
  pub workers : AreWorkers rest.slices new_turns

-- the schedule that a run began with
abbrev pub schedule_of : Driver → Schedule
schedule_of first = record {
  slices = first.gateway.slices;
  room = first.gateway.room;
  lane = first.gateway.lane;
  turns = turns_in first.turns;
}

-- A run began with the first and has come to these lines: the whole epochs are driven and told, and the lines of the
-- open one are taken.
pub record Drove (first now : Driver) (done : List Line) (latest : ℕ) (closed : List (List Line)) (open_ : List Line)
    (sent waiting : List ℕ) : Type 0 where
  pub start : Rest
  pub told : List EpochReport
  pub stands : Stands (schedule_of first) start now.turns closed told
  pub parts : done ≡ lines_in closed ++ open_
  pub few : length done ≤ 2 ^ 39
  pub taken : HasTaken start open_ now.gateway now.lines
  pub places : now.places ≡ first.places
  pub workers : AreWorkers start.slices now.turns
  pub later : AreLater start.latest open_
  pub latest_is : latest_behind start.latest open_ ≡ latest
  pub said : sent ≡ epochs_text first.places told
  pub waits : waiting ≡ []

-- The open epoch was driven: these epochs were told before it, and now one more.
pub record DroveOn (first old now : Driver) (done : List Line) (latest : ℕ) (closed : List (List Line))
    (open_ : List Line) (sent : List ℕ) (bad : Option LineBad) (n : ℕ) (text : List ℕ) : Type 0 where
  pub so_far : Drove first old done latest closed open_ sent []
  pub entry : EpochReport
  pub next : DrivesNext (schedule_of first) so_far.start (turns_in old.turns) closed so_far.told open_ entry
  pub rest : Rest
  pub stands : Stands (schedule_of first) rest now.turns (closed ++ open_ ∷ []) (so_far.told ++ entry ∷ [])
  pub opened : HasTaken rest [] now.gateway now.lines
  pub places : now.places ≡ first.places
  pub workers : AreWorkers rest.slices now.turns
  pub latest_is : rest.latest ≡ latest
  pub said : text ≡ lines_text first.places entry.lines ++ lines_text first.places (noted bad n)
      ++ closing_text first.places entry

-- the open epoch is driven too, if there is one
pub record DroveAll (first now : Driver) (done : List Line) (closed : List (List Line)) (open_ : List Line)
    (bad : Option LineBad) (text : List ℕ) : Type 0 where
  pub told : List EpochReport
  pub driven : AreDriven (rooms_in (schedule_of first)) (start_slices (schedule_of first))
      (turns_by_epoch (turns_in first.turns) first.gateway.slices (closed ++ open_epoch open_))
      (length (book_of done)) 1 no_events (meant_all (schedule_of first).slices closed open_ bad) told
  pub represents : AreStanding now.gateway.subscribers.items
      (behind_all no_events (meant_all (schedule_of first).slices closed open_ bad) told)
  pub slots : length now.gateway.subscribers.items ≡ length (book_of done)
  pub places : now.places ≡ first.places
  pub said : text ≡ epochs_text first.places told
