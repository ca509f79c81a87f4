use Rattle.std.proofs.Common.{◌++◌, map, take, subst, arith}
use Rattle.report_lines.specs.declared.entry.Entry.TheVariants as entry
use Rattle.audit_core.specs.Dues.{Asks}
use Rattle.audit_core.proofs.OrderLemmas.{all_asked, more_asked}
use Rattle.audit_core.proofs.order.EntryOrder.ask_charges.Goals as goal

pub loop-charge-preserved : goal.loop-charge-preserved
loop-charge-preserved c = λ made entries asked asks.
    let prefix = asked ++ map entry.Charge (take c.loop-charge.charge-index c.args.charges.now) in
    subst (λ a. Asks made entries a c.ask.new.self)
    (more_asked entry.Charge asked c.args.charges.now c.loop-charge.charge-index c.charge-item.result
    c.loop-charge-test.true c.charge-item.is)
    (c.in_ok-ask.ensures made entries prefix (c.loop-charge.invariant made entries asked asks))

pub returns : goal.returns
returns c = λ made entries asked asks.
    subst (λ a. Asks made entries a c.loop-charge.self)
    (all_asked entry.Charge asked c.args.charges.now c.loop-charge.charge-index (omega arith))
    (c.loop-charge.invariant made entries asked asks)

pub ask-requires : goal.ask-requires
ask-requires c =
    let q = c.requires in
    (q.0, q.1, q.2 ++ map entry.Charge (take c.loop-charge.charge-index c.args.charges.now), c.loop-charge.invariant q.0 q.1 q.2 q.3)
