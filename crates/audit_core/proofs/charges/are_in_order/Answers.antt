use Rattle.std.proofs.Common.{sym, subst, arith}
use Rattle.std.proofs.lemmas.List.{drop_all}
use Rattle.audit_core.proofs.KeyedLemmas.{Ascends, in_order}
use Rattle.audit_core.proofs.RestLemmas.{drop_next}
use Rattle.audit_core.proofs.charges.are_in_order.Goals as goal

pub loop-one-preserved : goal.loop-one-preserved
loop-one-preserved g c = λ up.
    c.loop-one.invariant (subst (Ascends c.loop-one.last)
    (sym (drop_next c.args.keyed.now c.loop-one.one-index c.one-item.result c.loop-one-test.true c.one-item.is))
    (omega arith, up))

pub returns : goal.returns
returns g c = λ slots none yes.
    in_order slots c.args.keyed.now
    (c.loop-one.invariant (subst (Ascends c.loop-one.last)
    (sym (drop_all c.loop-one.one-index c.args.keyed.now (omega arith))) tt)) none
