use Rattle.std.proofs.Common.{arith}
use Rattle.audit_core.proofs.AmongLemmas.{among_all, among_here, among_more}
use Rattle.audit_core.proofs.RestLemmas.{denied, granted, refused}
use Rattle.audit_core.proofs.charges.is_among.Goals as goal

pub returns-then-same_charge : goal.returns-then-same_charge
returns-then-same_charge c =
    granted (among_here c.args.some.now c.loop-one.one-index c.one-item.result c.args.charge.now
    c.loop-one-test.true c.one-item.is (c.same_charge.ensures.0 c.if-same_charge.true))

pub loop-one-preserved : goal.loop-one-preserved
loop-one-preserved c =
    among_more c.args.some.now c.loop-one.one-index c.one-item.result c.args.charge.now
    c.loop-one-test.true c.one-item.is c.loop-one.invariant (denied c.same_charge.ensures c.if-same_charge.false)

pub returns : goal.returns
returns c =
    refused (among_all c.args.some.now c.loop-one.one-index c.args.charge.now (omega arith) c.loop-one.invariant)
