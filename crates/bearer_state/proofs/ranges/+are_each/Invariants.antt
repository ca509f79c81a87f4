use Rattle.std.proofs.Common.{length}
use Rattle.bearer_state.proofs.ranges.+are_each.Given as goal

abbrev pub decreases-are_each : goal.decreases-are_each
decreases-are_each l = length l.bearers.now
