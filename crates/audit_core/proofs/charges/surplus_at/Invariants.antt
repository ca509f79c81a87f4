use Rattle.std.proofs.Common.{◌≡◌, ℕ, ◌<◌, map, take}
use Rattle.report_lines.specs.declared.entry.ChargeEntry.{ChargeEntry}
use Rattle.std.specs.Global.{Vec}
use Rattle.audit_core.specs.Agreeing.{each_slot, lent}
use Rattle.audit_core.specs.Charges.{IsTooManyAt}
use Rattle.audit_core.specs.Entries.{slot_charged}
use Rattle.audit_core.proofs.charges.surplus_at.Given as goal

abbrev pub invariant-loop-at : goal.invariant-loop-at
invariant-loop-at l = record {
  none : (k : ℕ) → k < l.at → ¬ IsTooManyAt l.due (lent l.told) k;
  before : map (λ (v : Vec ChargeEntry). v.items) l.before.items
      ≡ each_slot slot_charged l.slots (take l.at (lent l.told));
}
