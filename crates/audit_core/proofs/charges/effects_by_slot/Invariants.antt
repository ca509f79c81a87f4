use Rattle.std.proofs.Common.{◌≡◌, ℕ, take}
use Rattle.audit_core.specs.Agreeing.{of_slot, slot_effected}
use Rattle.audit_core.specs.Agreeing.{lent}
use Rattle.audit_core.specs.Sharing.{under}
use Rattle.audit_core.proofs.charges.effects_by_slot.Given as goal

abbrev pub invariant-loop-effect : goal.invariant-loop-effect
invariant-loop-effect l =
    (slot : ℕ) → lent (under slot l.all.items) ≡ of_slot slot_effected slot (lent (take l.effect-index l.effects))
