-- The lines of a made trace are answered, and the text of each whole epoch is counted.
use Rattle.std.specs.Prelude.{◌≡◌, ℕ, ◌+◌, ◌≤◌, false, List, ◌++◌, length}
use Rattle.report_lines.specs.Counts.{Counts as EntryCounts, all_held, counts_of, plus}
use Rattle.trace_lines.specs.Line.{Line}
use Rattle.trace_maker.specs.Numbering.{AreInOrder}
use Rattle.trace_run.specs.declared.epoch.Size.{Size}
use Rattle.trace_run.specs.Reporting.{Standing}
use Rattle.solo_command.specs.declared.solo.Solo.{Solo}
use Rattle.solo_command.specs.Progress.{HasAnswered}
use Rattle.solo_command.specs.Report.{IsSoloReport}

-- counts grow by those of a text
abbrev pub CountsMore : EntryCounts → EntryCounts → List ℕ → Type 0
CountsMore old new text = (before : EntryCounts) → old ≡ all_held before → new ≡ all_held (plus before (counts_of text))

-- these lines are answered: the texts of the whole epochs are counted, and the entries of the open one wait
pub record CountedSoFar (gateway : Solo) (size : Size) (waiting : List ℕ) (counts : EntryCounts) (done : List Line)
    (latest : ℕ) : Type 0 where
  pub sent : List ℕ
  pub standing : Standing IsSoloReport false (HasAnswered gateway done latest) size waiting done sent
  pub counted : counts ≡ all_held (counts_of sent)

-- and those that are left stand in order behind them
pub record Counting (gateway : Solo) (size : Size) (waiting : List ℕ) (counts : EntryCounts)
    (all left : List Line) : Type 0 where
  pub done : List Line
  pub latest : ℕ
  pub so_far : CountedSoFar gateway size waiting counts done latest
  pub parts : all ≡ done ++ left
  pub in_order : AreInOrder (length done + 1) latest left
  pub few : length done + length left ≤ 165533
