use Rattle.std.proofs.Common.{take}
use Rattle.audit_core.specs.Entries.{slot_charged}
use Rattle.audit_core.specs.Agreeing.{lent}
use Rattle.audit_core.specs.Charges.{AreOfSlots}
use Rattle.audit_core.proofs.charges.charge_of_none.Given as goal

abbrev pub invariant-loop-one : goal.invariant-loop-one
invariant-loop-one l = AreOfSlots slot_charged l.slots (take l.one-index (lent l.told))
