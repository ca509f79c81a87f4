use Rattle.std.proofs.Common.{◌≡◌, ℕ, take}
use Rattle.audit_core.specs.Entries.{slot_charged}
use Rattle.audit_core.specs.Agreeing.{of_slot}
use Rattle.audit_core.specs.Agreeing.{lent}
use Rattle.audit_core.specs.Sharing.{under}
use Rattle.audit_core.proofs.charges.charges_by_slot.Given as goal

abbrev pub invariant-loop-charge : goal.invariant-loop-charge
invariant-loop-charge l =
    (slot : ℕ) → lent (under slot l.all.items) ≡ of_slot slot_charged slot (lent (take l.charge-index l.charges))
