use Rattle.std.proofs.Common.{◌≡◌, ◌-◌}
use Rattle.record_codec.specs.Read.{times, bucket_at}
use Rattle.record_codec.proofs.Loops.{with_prefix}
use Rattle.record_codec.proofs.counters.buckets_of.Given as goal

abbrev pub invariant-loop : goal.invariant-loop
invariant-loop l =
    with_prefix l.buckets.items (times (l.count - l.counter) bucket_at l.input.rest.now)
    ≡ times l.count bucket_at l.fn.input.rest.now
