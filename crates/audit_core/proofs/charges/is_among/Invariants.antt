use Rattle.std.proofs.Common.{take}
use Rattle.std.specs.Prelude.{Contains}
use Rattle.audit_core.specs.Agreeing.{lent}
use Rattle.audit_core.proofs.charges.is_among.Given as goal

abbrev pub invariant-loop-one : goal.invariant-loop-one
invariant-loop-one l = ¬ Contains (lent (take l.one-index l.some)) l.charge
