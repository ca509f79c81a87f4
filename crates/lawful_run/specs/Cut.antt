-- Lines that are cut into whole epochs and an open one.
use Rattle.std.specs.Prelude.{◌≡◌, true, false, All, List, [], ◌++◌, flat_map}
use Rattle.trace_lines.specs.Epochs.{epochs_behind, epochs_of}
use Rattle.trace_lines.specs.Line.{Line}
use Rattle.lawful_run.specs.Trace.{is_whole}

-- the lines of epochs
abbrev pub lines_in : List (List Line) → List Line
lines_in epochs = flat_map (λ (epoch : List Line). epoch) epochs

-- These lines are whole epochs and those of one that is open still, which is what any lines behind them come to.
pub record IsCut (done : List Line) (closed : List (List Line)) (open_ : List Line) : Type 0 where
  pub parts : done ≡ lines_in closed ++ open_
  pub closes : (later : List Line) → epochs_of (lines_in closed ++ later) ≡ closed ++ epochs_behind [] later
  pub opens : (later : List Line) → epochs_behind [] (open_ ++ later) ≡ epochs_behind open_ later
  pub whole : All (λ epoch. is_whole [] epoch ≡ true) closed
  pub unfinished : is_whole [] open_ ≡ false
