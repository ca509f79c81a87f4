use Rattle.std.proofs.Common.{◌≡◌}
use Rattle.lane_core.specs.Ends.{sender_lane, sent}
use Rattle.lane_core.proofs.tests.sent_at_last.Given as goal

abbrev pub invariant-loop : goal.invariant-loop
invariant-loop g l = (sender_lane l.tx ≡ sender_lane l.fn.tx) × (sent l.tx ≡ sent l.fn.tx) × (l.parcel ≡ l.fn.parcel)
