use Rattle.std.proofs.lemmas.Result.{err_from_is_err_and}
use Rattle.record_codec.specs.Read.{times, held_at}
use Rattle.record_codec.proofs.Loops.{goes_on, ends, is_done}
use Rattle.record_codec.proofs.counters.held_of.Goals as goal

pub returns-in_err-row : goal.returns-in_err-row
returns-in_err-row c =
    let p = err_from_is_err_and c.from_residual.result c.from_residual.ensures.1 in
    rw (p.1, p.2)
    (ends (held_at c.args.packets) c.in_err-row.field-0.0 c.loop.held.items c.args.count c.loop.counter
    c.loop.input.rest.now
    (times c.args.count (held_at c.args.packets) c.args.input.now.rest.now) c.loop-test.true c.in_err-row.ensures
    c.loop.invariant)

pub loop-preserved : goal.loop-preserved
loop-preserved c =
    rw c.in_ok-push.ensures.items
    (goes_on (held_at c.args.packets) c.loop.held.items c.args.count c.loop.counter c.loop.input.rest.now
    c.in_ok-row.row
    c.held_at.new.input.rest.now (times c.args.count (held_at c.args.packets) c.args.input.now.rest.now)
    c.loop-test.true
    c.in_ok-row.ensures c.loop.invariant)

pub returns : goal.returns
returns c =
    is_done (held_at c.args.packets) c.loop.held.items c.args.count c.loop.counter c.loop.input.rest.now
    (times c.args.count (held_at c.args.packets) c.args.input.now.rest.now) c.loop-test.false c.loop.invariant
