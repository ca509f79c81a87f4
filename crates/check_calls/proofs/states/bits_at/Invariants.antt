use Rattle.std.proofs.Common.{◌≤◌, ◌+◌}
use Rattle.check_calls.proofs.states.bits_at.Given as goal

abbrev pub invariant-loop-bit : goal.invariant-loop-bit
invariant-loop-bit l = l.digit ≤ 48 + l.bit
