use Rattle.audit_core.specs.Agreeing.{lent}
use Rattle.audit_core.specs.Dues.{effects_lent}
use Rattle.audit_core.proofs.Differing.{SamePart}
use Rattle.audit_core.proofs.charges.same_effects.Given as goal

abbrev pub invariant-loop-at : goal.invariant-loop-at
invariant-loop-at l = SamePart (lent l.told) (effects_lent l.due) l.at
