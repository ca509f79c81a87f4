use Rattle.std.proofs.lemmas.Result.{err_from_is_err_and}
use Rattle.record_codec.specs.Read.{times, bucket_at}
use Rattle.record_codec.proofs.Loops.{goes_on, ends, is_done}
use Rattle.record_codec.proofs.counters.buckets_of.Goals as goal

pub returns-in_err-bucket : goal.returns-in_err-bucket
returns-in_err-bucket c =
    let p = err_from_is_err_and c.from_residual.result c.from_residual.ensures.1 in
    rw (p.1, p.2)
    (ends bucket_at c.in_err-bucket.field-0.0 c.loop.buckets.items c.args.count c.loop.counter c.loop.input.rest.now
    (times c.args.count bucket_at c.args.input.now.rest.now) c.loop-test.true c.in_err-bucket.ensures
    c.loop.invariant)

pub loop-preserved : goal.loop-preserved
loop-preserved c =
    rw c.in_ok-push.ensures.items
    (goes_on bucket_at c.loop.buckets.items c.args.count c.loop.counter c.loop.input.rest.now c.in_ok-bucket.bucket
    c.bucket_at.new.input.rest.now (times c.args.count bucket_at c.args.input.now.rest.now) c.loop-test.true
    c.in_ok-bucket.ensures c.loop.invariant)

pub returns : goal.returns
returns c =
    is_done bucket_at c.loop.buckets.items c.args.count c.loop.counter c.loop.input.rest.now
    (times c.args.count bucket_at c.args.input.now.rest.now) c.loop-test.false c.loop.invariant
