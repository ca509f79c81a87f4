use Rattle.std.proofs.Common.{◌≡◌, ◌++◌, Bool, take}
use Rattle.slot_execution.specs.Replaying.{rows_told}
use Rattle.trace_run.specs.Entries.{charges_text}
use Rattle.trace_run.proofs.entries.push_records.Given as goal

abbrev pub invariant-loop-closed : goal.invariant-loop-closed
invariant-loop-closed l =
    (places : Bool) → l.report ≡ l.initial.report ++ charges_text places (rows_told (take l.closed-index l.records))
