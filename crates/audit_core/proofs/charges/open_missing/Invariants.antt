use Rattle.std.proofs.Common.{take}
use Rattle.std.specs.Prelude.{All, Contains}
use Rattle.audit_core.specs.Agreeing.{lent}
use Rattle.audit_core.proofs.charges.open_missing.Given as goal

abbrev pub invariant-loop-charge : goal.invariant-loop-charge
invariant-loop-charge l = All (Contains (lent l.told)) (take l.charge-index l.due)
