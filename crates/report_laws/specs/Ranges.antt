-- What reports tell is in the ranges of a report.
use Rattle.std.specs.Prelude.{ℕ, List, All}
use Rattle.lawful_run.specs.Report.{Report, entries_of}
use Rattle.lawful_run.specs.Setup.{Setup}
use Rattle.lawful_run.specs.Trace.{IsReport}
use Rattle.report_lines.specs.Ranges.{IsEntry}
use Rattle.report_laws.specs.Shown.{report_shown}
use Rattle.trace_lines.specs.Input.{input_of}

-- Whatever an input's octets say: the entries of a report that it may have, without places, are those that a report can
-- hold.
abbrev pub EntriesAreInRange : Type 0
EntriesAreInRange = (setup : Setup) (octets : List ℕ) (report : Report) → IsReport setup (input_of octets) report
    → All IsEntry (entries_of (report_shown report))
