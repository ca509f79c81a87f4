-- What closing an epoch comes to.
use Rattle.std.specs.Prelude.{◌≡◌, ℕ, ◌+◌, ◌≤◌, ◌++◌, List, length}
use Rattle.trace_lines.specs.Line.{Line}
use Rattle.lawful_run.specs.Merging.{Histories, behind}
use Rattle.lawful_run.specs.Report.{EpochReport}
use Rattle.lawful_run.specs.Run.{IsEpochRun, told_in}
use Rattle.lawful_run.specs.Setup.{sliced}
use Rattle.lawful_run.specs.Trace.{meant_from}
use Rattle.at_rest.specs.Rest.{IsBehind, RepresentsAll, Rest}

-- The gateway was opened, and took these lines. Whatever lines and events stood before them, the report is a lawful
-- epoch's, where as many slots are known as the book has, or more; the gateway at rest represents the events behind it
-- and is what all lines leave; and its setup is as it was.
pub record Closes (opened : Rest) (taken : List Line) (rest : Rest) (told : EpochReport) : Type 0 where
  pub lawful : (prior : List Line) (before : Histories) (slots : ℕ) → IsBehind opened prior
      → RepresentsAll opened before → length rest.book ≤ slots
      → IsEpochRun (sliced opened.slices opened.room opened.lane) slots (opened.lines + 1) before
      (meant_from opened.slices prior taken) told
  pub represents : (prior : List Line) (before : Histories) → IsBehind opened prior → RepresentsAll opened before
      → RepresentsAll rest (behind before (told_in (meant_from opened.slices prior taken) told))
  pub is_behind : (prior : List Line) → IsBehind opened prior → IsBehind rest (prior ++ taken)
  pub setup : (rest.slices ≡ opened.slices) × (rest.room ≡ opened.room) × (rest.lane ≡ opened.lane)
