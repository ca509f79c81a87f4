use Rattle.std.proofs.Common.{◌≡◌, take}
use Rattle.slot_execution.specs.Replaying.{effects_told}
use Rattle.audit_core.specs.Dues.{effects_lent}
use Rattle.audit_core.proofs.due_entries.effects_due.Given as goal

abbrev pub invariant-loop-own : goal.invariant-loop-own
invariant-loop-own l = effects_lent l.all.items ≡ effects_told (take l.own-index l.caused)
