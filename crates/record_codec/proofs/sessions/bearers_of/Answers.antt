use Rattle.std.proofs.lemmas.Result.{err_from_is_err_and}
use Rattle.record_codec.specs.Read.{times, bearer_at}
use Rattle.record_codec.proofs.Loops.{goes_on, ends, is_done}
use Rattle.record_codec.proofs.sessions.bearers_of.Goals as goal

pub returns-in_err-bearer : goal.returns-in_err-bearer
returns-in_err-bearer c =
    let p = err_from_is_err_and c.from_residual.result c.from_residual.ensures.1 in
    rw (p.1, p.2)
    (ends bearer_at c.in_err-bearer.field-0.0 c.loop.bearers.items c.args.count c.loop.counter c.loop.input.rest.now
    (times c.args.count bearer_at c.args.input.now.rest.now) c.loop-test.true c.in_err-bearer.ensures
    c.loop.invariant)

pub loop-preserved : goal.loop-preserved
loop-preserved c =
    rw c.in_ok-push.ensures.items
    (goes_on bearer_at c.loop.bearers.items c.args.count c.loop.counter c.loop.input.rest.now c.in_ok-bearer.bearer
    c.bearer_at.new.input.rest.now (times c.args.count bearer_at c.args.input.now.rest.now) c.loop-test.true
    c.in_ok-bearer.ensures c.loop.invariant)

pub returns : goal.returns
returns c =
    is_done bearer_at c.loop.bearers.items c.args.count c.loop.counter c.loop.input.rest.now
    (times c.args.count bearer_at c.args.input.now.rest.now) c.loop-test.false c.loop.invariant
