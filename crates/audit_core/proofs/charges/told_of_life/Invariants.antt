use Rattle.std.proofs.Common.{◌≡◌, drop, find}
use Rattle.audit_core.specs.Agreeing.{lent}
use Rattle.audit_core.specs.Charges.{same_life}
use Rattle.audit_core.proofs.charges.told_of_life.Given as goal

abbrev pub invariant-loop-one : goal.invariant-loop-one
invariant-loop-one l = find (same_life l.due) (drop l.one-index (lent l.told)) ≡ find (same_life l.due) (lent l.told)
