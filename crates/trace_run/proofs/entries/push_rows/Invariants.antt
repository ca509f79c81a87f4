use Rattle.std.proofs.Common.{◌≡◌, ◌++◌, Bool, map, take}
use Rattle.report_lines.specs.declared.entry.ChargeEntry.TheVariants.{R}
use Rattle.trace_run.specs.Entries.{charges_text}
use Rattle.trace_run.proofs.entries.push_rows.Given as goal

abbrev pub invariant-loop-row : goal.invariant-loop-row
invariant-loop-row l = (places : Bool) → l.report ≡ l.initial.report
    ++ charges_text places (map (R l.slot) (take l.row-index l.rows))
