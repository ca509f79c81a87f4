use Rattle.std.proofs.Common.{◌≡◌, length}
use Rattle.lane_core.specs.Ends.{sender_lane, sent}
use Rattle.lane_core.proofs.tests.send_numbers.Given as goal

abbrev pub invariant-loop-n : goal.invariant-loop-n
invariant-loop-n g l = (sender_lane l.tx ≡ sender_lane l.fn.tx) × (length (sent l.tx) ≡ l.n)
