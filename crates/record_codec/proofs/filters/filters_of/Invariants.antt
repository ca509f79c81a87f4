use Rattle.std.proofs.Common.{◌≡◌, ◌-◌}
use Rattle.record_codec.specs.Read.{times, filter_at}
use Rattle.record_codec.proofs.Loops.{with_prefix}
use Rattle.record_codec.proofs.filters.filters_of.Given as goal

abbrev pub invariant-loop : goal.invariant-loop
invariant-loop l =
    with_prefix l.filters.items (times (l.count - l.counter) filter_at l.input.rest.now)
    ≡ times l.count filter_at l.fn.input.rest.now
