use Rattle.std.proofs.Common.{◌≡◌}
use Rattle.lane_core.specs.Ends.{receiver_lane}
use Rattle.lane_core.proofs.tests.take_numbers.Given as goal

abbrev pub invariant-loop : goal.invariant-loop
invariant-loop g l = receiver_lane l.rx ≡ receiver_lane l.fn.rx
