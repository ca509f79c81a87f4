use Rattle.std.proofs.Common.{drop}
use Rattle.audit_core.proofs.KeyedLemmas.{Ascends}
use Rattle.audit_core.proofs.charges.are_in_order.Given as goal

abbrev pub invariant-loop-one : goal.invariant-loop-one
invariant-loop-one g l = Ascends l.last (drop l.one-index l.keyed) → Ascends 0 l.keyed
