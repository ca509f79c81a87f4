use Rattle.std.proofs.Common.{◌++◌, List, map, take}
use Rattle.demux.specs.Trace.{Meaning}
use Rattle.report_lines.specs.declared.entry.Entry.{Entry}
use Rattle.report_lines.specs.declared.entry.Entry.TheVariants as entry
use Rattle.audit_core.specs.Dues.{Asks, effects_lent}
use Rattle.audit_core.proofs.order.EntryOrder.ask_effects.Given as goal

abbrev pub invariant-loop-effect : goal.invariant-loop-effect
invariant-loop-effect l = (made : List (List Meaning)) (entries asked : List Entry)
    → Asks made entries asked l.initial.self
    → Asks made entries (asked ++ map entry.Effect (effects_lent (take l.effect-index l.effects))) l.self
