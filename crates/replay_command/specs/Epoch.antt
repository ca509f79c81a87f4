-- An epoch that was run over slices and told.
use Rattle.std.specs.Prelude.{◌≡◌, ℕ, ◌+◌, Bool, Option, List, ◌++◌, count_by}
use Rattle.trace_lines.specs.Line.{Line}
use Rattle.trace_lines.specs.declared.bad.LineBad.{LineBad}
use Rattle.lawful_run.specs.Accepted.{is_refused}
use Rattle.lawful_run.specs.Report.{EpochReport}
use Rattle.at_rest.specs.Coming.{latest_behind}
use Rattle.at_rest.specs.Rest.{Rest}
use Rattle.front_core.specs.Closing.{Closes}
use Rattle.slice_core.specs.Lines.{Counted, is_answered}
use Rattle.trace_run.specs.Entries.{closing_text, lines_text}
use Rattle.trace_run.specs.Noted.{noted}
use Rattle.slice_core.specs.declared.pace.Pace.{Pace}

-- The report is a lawful one of the lines, whatever the schedule; it is told with the note of a bad line, if there is
-- one; and the count of full answers rose by the tries of each refusal, as many as the patience says and one, and by
-- those that failed of each command or packet that was accepted, at most as many as the patience says.
pub record IsReplayed (old : Rest) (lines : List Line) (pace : Pace) (bad : Option LineBad) (n : ℕ) (places : Bool)
    (before after : List ℕ) (new : Rest) : Type 0 where
  pub told : EpochReport
  pub closes : Closes old lines new told
  pub latest : new.latest ≡ latest_behind old.latest lines
  pub refusals : Counted (pace.patience + 1) (count_by is_refused told.lines) (count_by is_answered told.lines)
      old.fulls new.fulls
  pub said : after ≡ before ++ (lines_text places told.lines ++ lines_text places (noted bad n)
      ++ closing_text places told)
