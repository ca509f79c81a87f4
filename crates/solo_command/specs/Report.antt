-- The report of a trace that one thread answers.
use Rattle.std.specs.Prelude.{ℕ, false}
use Rattle.trace_lines.specs.Input.{Input}
use Rattle.lawful_run.specs.InSequence.{AnswersInSequence}
use Rattle.lawful_run.specs.Setup.{solo}
use Rattle.lawful_run.specs.Report.{Report, report_text}
use Rattle.lawful_run.specs.Trace.{IsReport, epochs_told}
use Rattle.trace_run.specs.Report.{IsText}
use Rattle.solo_command.specs.Gateway.{no_subscribers}
use Rattle.solo_command.specs.Reports.{Gives}

-- how many slices there are for an order to move
abbrev pub slices : ℕ
slices = 64

-- A report that one thread may give of an input: its run is lawful, and sequential; and its text is that of what a
-- gateway gives that had no subscribers, line by line, by what they hold.
pub record IsSoloReport (input : Input) (report : Report) : Type 0 where
  pub lawful : IsReport solo input report
  pub in_sequence : AnswersInSequence (epochs_told slices input) report
  pub gives : IsText (Gives slices no_subscribers) false input (report_text false report)
