use Rattle.std.proofs.Common.{◌≡◌, take}
use Rattle.slot_execution.specs.Replaying.{rows_told}
use Rattle.audit_core.proofs.due_entries.rows_due.Given as goal

abbrev pub invariant-loop-own : goal.invariant-loop-own
invariant-loop-own l = l.all.items ≡ rows_told (take l.own-index l.closed)
