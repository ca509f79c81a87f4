use Rattle.std.proofs.Common.{◌≡◌, map, take}
use Rattle.audit_core.specs.declared.sharing.Keyed.{Keyed}
use Rattle.audit_core.proofs.charges.in_slot_order.Given as goal

abbrev pub invariant-loop-one : goal.invariant-loop-one
invariant-loop-one g l = l.all.items ≡ map (λ (o : Keyed _). o.item) (take l.one-index l.keyed)
