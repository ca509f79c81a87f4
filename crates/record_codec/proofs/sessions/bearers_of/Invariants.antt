use Rattle.std.proofs.Common.{◌≡◌, ◌-◌}
use Rattle.record_codec.specs.Read.{times, bearer_at}
use Rattle.record_codec.proofs.Loops.{with_prefix}
use Rattle.record_codec.proofs.sessions.bearers_of.Given as goal

abbrev pub invariant-loop : goal.invariant-loop
invariant-loop l =
    with_prefix l.bearers.items (times (l.count - l.counter) bearer_at l.input.rest.now)
    ≡ times l.count bearer_at l.fn.input.rest.now
