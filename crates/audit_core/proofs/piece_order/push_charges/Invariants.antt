use Rattle.std.proofs.Common.{◌≡◌, ◌++◌, map, take}
use Rattle.report_lines.specs.declared.entry.Entry.TheVariants as entry
use Rattle.audit_core.specs.Dues.{entry_due}
use Rattle.audit_core.proofs.piece_order.push_charges.Given as goal

abbrev pub invariant-loop-charge : goal.invariant-loop-charge
invariant-loop-charge l = map entry_due l.all.items
    ≡ map entry_due l.initial.all.items ++ map entry.Charge (take l.charge-index l.charges)
