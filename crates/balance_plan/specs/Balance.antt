-- The trace that is written: each line, and behind a FENCE the moves planned there.
use Rattle.std.specs.Prelude.{ℕ, ◌+◌, if◌then◌else◌, List, [], ◌∷◌, ◌++◌, fold, map}
use Rattle.report_lines.specs.declared.entry.Entry.{Entry}
use Rattle.trace_lines.specs.Epochs.{is_fence}
use Rattle.trace_lines.specs.Line.{Line}
use Rattle.balance_plan.specs.Plans.{moves_at}
use Rattle.balance_plan.specs.Written.{Written, given, planned, lines_of}

-- what is written so far, of how many lines of the trace, and which of these was the last FENCE (0: none yet)
pub record Balance : Type 0 where
  pub written : List Written
  pub lines : ℕ
  pub fence : ℕ

abbrev pub nothing : Balance
nothing = record { written = []; lines = 0; fence = 0 }

abbrev pub with_given : Balance → Line → List Written
with_given so_far line = so_far.written ++ given line ∷ []

-- the moves planned behind a line
abbrev pub planned_at : (slices most : ℕ) → List Entry → Balance → Line → List Line
planned_at slices most entries so_far line =
    if is_fence line.kind then
    moves_at slices most so_far.fence (so_far.lines + 1) entries (lines_of (with_given so_far line)) line
    else []

abbrev pub with_line : (slices most : ℕ) → List Entry → Balance → Line → Balance
with_line slices most entries so_far line = record {
  written = with_given so_far line ++ map planned (planned_at slices most entries so_far line);
  lines = so_far.lines + 1;
  fence = if is_fence line.kind then so_far.lines + 1 else so_far.fence;
}

unfoldable pub balance_of : (slices most : ℕ) → List Entry → List Line → Balance
balance_of slices most entries lines = fold (with_line slices most entries) nothing lines

abbrev pub balanced : (slices most : ℕ) → List Entry → List Line → List Written
balanced slices most entries lines = (balance_of slices most entries lines).written
