use Rattle.std.proofs.Common.{◌≡◌, ◌++◌, map, take}
use Rattle.report_lines.specs.declared.entry.ChargeEntry.TheVariants.{R}
use Rattle.audit_core.proofs.due_entries.push_closed.Given as goal

abbrev pub invariant-loop-row : goal.invariant-loop-row
invariant-loop-row l = l.all.items ≡ l.initial.all.items ++ map (R l.closed.slot) (take l.row-index l.closed.rows.items)
