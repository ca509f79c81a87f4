use Rattle.std.proofs.Common.{◌≡◌, ◌++◌, map, take}
use Rattle.report_lines.specs.declared.entry.Entry.TheVariants as entry
use Rattle.audit_core.specs.Dues.{effects_lent, entry_due}
use Rattle.audit_core.proofs.piece_order.push_effects.Given as goal

abbrev pub invariant-loop-effect : goal.invariant-loop-effect
invariant-loop-effect l = map entry_due l.all.items
    ≡ map entry_due l.initial.all.items ++ map entry.Effect (effects_lent (take l.effect-index l.effects))
