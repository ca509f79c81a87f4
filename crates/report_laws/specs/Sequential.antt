-- There is a report that one thread may give.
use Rattle.std.specs.Prelude.{ℕ, List}
use Rattle.trace_lines.specs.Input.{input_of}
use Rattle.lawful_run.specs.Setup.{solo}
use Rattle.lawful_run.specs.Trace.{answered_report}
use Rattle.solo_command.specs.Report.{IsSoloReport}

-- Whatever octets a trace has, its sequential run is a report that one thread may give of it: lawful, in sequence, and
-- with the text that a gateway without subscribers gives, line by line, by what its subscribers hold then.
abbrev pub EveryInputHasAReport : Type 0
EveryInputHasAReport = (octets : List ℕ) → IsSoloReport (input_of octets) (answered_report solo (input_of octets))
