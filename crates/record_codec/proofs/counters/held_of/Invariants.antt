use Rattle.std.proofs.Common.{◌≡◌, ◌-◌}
use Rattle.record_codec.specs.Read.{times, held_at}
use Rattle.record_codec.proofs.Loops.{with_prefix}
use Rattle.record_codec.proofs.counters.held_of.Given as goal

abbrev pub invariant-loop : goal.invariant-loop
invariant-loop l =
    with_prefix l.held.items (times (l.count - l.counter) (held_at l.packets) l.input.rest.now)
    ≡ times l.count (held_at l.packets) l.fn.input.rest.now
