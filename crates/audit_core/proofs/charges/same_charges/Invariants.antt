use Rattle.audit_core.specs.Agreeing.{lent}
use Rattle.audit_core.proofs.Differing.{SamePart}
use Rattle.audit_core.proofs.charges.same_charges.Given as goal

abbrev pub invariant-loop-at : goal.invariant-loop-at
invariant-loop-at l = SamePart (lent l.told) l.due l.at
