-- What stands behind epochs that were run over slices.
use Rattle.std.specs.Prelude.{◌≡◌, ℕ, ◌+◌, ◌≤◌, ◌^◌, Option, List, [], ◌∷◌, ◌++◌, length}
use Rattle.trace_lines.specs.Line.{Line}
use Rattle.trace_lines.specs.declared.bad.LineBad.{LineBad}
use Rattle.demux.specs.Trace.{Meaning, book_of}
use Rattle.lawful_run.specs.Cut.{lines_in}
use Rattle.lawful_run.specs.Merging.{Histories}
use Rattle.lawful_run.specs.Report.{EpochReport}
use Rattle.lawful_run.specs.Run.{AreEpochRuns, IsEpochRun, behind_all, no_events}
use Rattle.lawful_run.specs.Setup.{Setup, sliced, slices_of}
use Rattle.lawful_run.specs.Trace.{meant_epochs, meant_from}
use Rattle.at_rest.specs.Coming.{AreLater, latest_behind}
use Rattle.at_rest.specs.Rest.{IsBehind, RepresentsAll, Rest}
use Rattle.trace_run.specs.Entries.{closing_text, epochs_text, lines_text}
use Rattle.trace_run.specs.Noted.{meant_all, noted}
use Rattle.replay_command.specs.declared.replay.Replay.{Replay}

-- what epochs' lines mean, and the events behind them
abbrev pub meant_in : Setup → List (List Line) → List (List Meaning)
meant_in setup closed = meant_epochs (slices_of setup) [] closed

abbrev pub events_behind : Setup → List (List Line) → List EpochReport → Histories
events_behind setup closed told = behind_all no_events (meant_in setup closed) told

-- The gateway at rest is what these epochs leave, and they are told as lawful ones, for as many slots as the book has,
-- or more.
pub record Stands (setup : Setup) (rest : Rest) (closed : List (List Line)) (told : List EpochReport) : Type 0 where
  pub represents : RepresentsAll rest (events_behind setup closed told)
  pub behind : IsBehind rest (lines_in closed)
  pub same : sliced rest.slices rest.room rest.lane ≡ setup
  pub lawful : (slots : ℕ) → length (book_of (lines_in closed)) ≤ slots
      → AreEpochRuns setup slots 1 no_events (meant_in setup closed) told

-- the lines of one more epoch are told as a lawful one behind them
abbrev pub IsLawfulNext : Setup → List (List Line) → List EpochReport → List Line → EpochReport → Type 0
IsLawfulNext setup closed told lines now = (slots : ℕ) → length (book_of (lines_in closed ++ lines)) ≤ slots
    → IsEpochRun setup slots (1 + length (lines_in closed)) (events_behind setup closed told)
    (meant_from (slices_of setup) (lines_in closed) lines) now

-- the setup that a run began with
abbrev pub setup_of : Replay → Setup
setup_of first = sliced first.rest.slices first.rest.room first.rest.lane

-- A run began with the first and has come to these lines: the whole epochs are run and told, and the lines of the open
-- one are kept.
pub record Replayed (first now : Replay) (done : List Line) (latest : ℕ) (closed : List (List Line))
    (open_ : List Line) (sent waiting : List ℕ) : Type 0 where
  pub told : List EpochReport
  pub stands : Stands (setup_of first) now.rest closed told
  pub parts : done ≡ lines_in closed ++ open_
  pub few : length done ≤ 2 ^ 39
  pub kept : now.lines.items ≡ open_
  pub places : now.places ≡ first.places
  pub later : AreLater now.rest.latest open_
  pub latest_is : latest_behind now.rest.latest open_ ≡ latest
  pub said : sent ≡ epochs_text first.places told
  pub waits : waiting ≡ []

-- The open epoch was run: these epochs were told before it, and now one more.
pub record ReplayedOn (first old now : Replay) (done : List Line) (latest : ℕ) (closed : List (List Line))
    (open_ : List Line) (sent : List ℕ) (bad : Option LineBad) (n : ℕ) (text : List ℕ) : Type 0 where
  pub so_far : Replayed first old done latest closed open_ sent []
  pub entry : EpochReport
  pub next : IsLawfulNext (setup_of first) closed so_far.told open_ entry
  pub stands : Stands (setup_of first) now.rest (closed ++ open_ ∷ []) (so_far.told ++ entry ∷ [])
  pub emptied : now.lines.items ≡ []
  pub places : now.places ≡ first.places
  pub latest_is : now.rest.latest ≡ latest
  pub said : text ≡ lines_text first.places entry.lines ++ lines_text first.places (noted bad n)
      ++ closing_text first.places entry

-- the open epoch is run too, if there is one
pub record ReplayedAll (first now : Replay) (done : List Line) (closed : List (List Line)) (open_ : List Line)
    (bad : Option LineBad) (text : List ℕ) : Type 0 where
  pub told : List EpochReport
  pub lawful : AreEpochRuns (setup_of first) (length (book_of done)) 1 no_events
      (meant_all first.rest.slices closed open_ bad) told
  pub represents : RepresentsAll now.rest (behind_all no_events (meant_all first.rest.slices closed open_ bad) told)
  pub book : length now.rest.book ≡ length (book_of done)
  pub said : text ≡ epochs_text first.places told
