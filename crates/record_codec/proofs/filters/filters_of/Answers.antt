use Rattle.std.proofs.lemmas.Result.{err_from_is_err_and}
use Rattle.record_codec.specs.Read.{times, filter_at}
use Rattle.record_codec.proofs.Loops.{goes_on, ends, is_done}
use Rattle.record_codec.proofs.filters.filters_of.Goals as goal

pub returns-in_err-filter : goal.returns-in_err-filter
returns-in_err-filter c =
    let p = err_from_is_err_and c.from_residual.result c.from_residual.ensures.1 in
    rw (p.1, p.2)
    (ends filter_at c.in_err-filter.field-0.0 c.loop.filters.items c.args.count c.loop.counter c.loop.input.rest.now
    (times c.args.count filter_at c.args.input.now.rest.now) c.loop-test.true c.in_err-filter.ensures
    c.loop.invariant)

pub loop-preserved : goal.loop-preserved
loop-preserved c =
    rw c.in_ok-push.ensures.items
    (goes_on filter_at c.loop.filters.items c.args.count c.loop.counter c.loop.input.rest.now c.in_ok-filter.filter
    c.filter_at.new.input.rest.now (times c.args.count filter_at c.args.input.now.rest.now) c.loop-test.true
    c.in_ok-filter.ensures c.loop.invariant)

pub returns : goal.returns
returns c =
    is_done filter_at c.loop.filters.items c.args.count c.loop.counter c.loop.input.rest.now
    (times c.args.count filter_at c.args.input.now.rest.now) c.loop-test.false c.loop.invariant
