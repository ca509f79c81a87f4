use Rattle.std.proofs.Common.{◌++◌, map, ap, ◌∙◌, arith}
use Rattle.std.proofs.lemmas.List.{take_all}
use Rattle.report_lines.specs.declared.entry.Entry.TheVariants as entry
use Rattle.audit_core.specs.Dues.{effects_lent, entry_due}
use Rattle.audit_core.proofs.OrderSteps.{effect_more}
use Rattle.audit_core.proofs.PieceOrder.{pushed_due}
use Rattle.audit_core.proofs.piece_order.push_effects.Goals as goal

pub loop-effect-preserved : goal.loop-effect-preserved
loop-effect-preserved c =
    ap (map entry_due) c.in_ok-push.ensures.items
    ∙ pushed_due c.loop-effect.all.items _ c.loop-effect.invariant
    ∙ effect_more (map entry_due c.args.all.now.items) c.args.effects.now c.loop-effect.effect-index
    c.effect-item.result c.loop-effect-test.true c.effect-item.is

pub returns : goal.returns
returns c =
    c.loop-effect.invariant
    ∙ ap (λ l. map entry_due c.args.all.now.items ++ map entry.Effect (effects_lent l))
    (take_all c.loop-effect.effect-index c.args.effects.now (omega arith))
