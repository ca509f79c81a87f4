use Rattle.std.proofs.Common.{◌++◌, List, map, take}
use Rattle.demux.specs.Trace.{Meaning}
use Rattle.report_lines.specs.declared.entry.Entry.{Entry}
use Rattle.report_lines.specs.declared.entry.Entry.TheVariants as entry
use Rattle.audit_core.specs.Dues.{Asks}
use Rattle.audit_core.proofs.order.EntryOrder.ask_charges.Given as goal

abbrev pub invariant-loop-charge : goal.invariant-loop-charge
invariant-loop-charge l = (made : List (List Meaning)) (entries asked : List Entry)
    → Asks made entries asked l.initial.self
    → Asks made entries (asked ++ map entry.Charge (take l.charge-index l.charges)) l.self
