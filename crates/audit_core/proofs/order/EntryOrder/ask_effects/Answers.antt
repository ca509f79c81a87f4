use Rattle.std.proofs.Common.{◌++◌, map, take, ap, subst, arith}
use Rattle.std.proofs.lemmas.List.{take_all}
use Rattle.report_lines.specs.declared.entry.Entry.TheVariants as entry
use Rattle.audit_core.specs.Dues.{Asks, effects_lent}
use Rattle.audit_core.proofs.OrderSteps.{effect_more}
use Rattle.audit_core.proofs.order.EntryOrder.ask_effects.Goals as goal

pub loop-effect-preserved : goal.loop-effect-preserved
loop-effect-preserved c = λ made entries asked asks.
    let prefix = asked ++ map entry.Effect (effects_lent (take c.loop-effect.effect-index c.args.effects.now)) in
    subst (λ a. Asks made entries a c.ask.new.self)
    (effect_more asked c.args.effects.now c.loop-effect.effect-index c.effect-item.result
    c.loop-effect-test.true c.effect-item.is)
    (c.in_ok-ask.ensures made entries prefix (c.loop-effect.invariant made entries asked asks))

pub returns : goal.returns
returns c = λ made entries asked asks.
    subst (λ a. Asks made entries a c.loop-effect.self)
    (ap (λ l. asked ++ map entry.Effect (effects_lent l))
    (take_all c.loop-effect.effect-index c.args.effects.now (omega arith)))
    (c.loop-effect.invariant made entries asked asks)

pub ask-requires : goal.ask-requires
ask-requires c =
    let q = c.requires in
    (q.0, q.1, q.2 ++ map entry.Effect (effects_lent (take c.loop-effect.effect-index c.args.effects.now)), c.loop-effect.invariant q.0 q.1 q.2 q.3)
