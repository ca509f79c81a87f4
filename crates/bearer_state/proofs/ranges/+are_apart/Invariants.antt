use Rattle.std.proofs.Common.{length}
use Rattle.bearer_state.proofs.ranges.+are_apart.Given as goal

abbrev pub decreases-are_apart : goal.decreases-are_apart
decreases-are_apart l = length l.bearers.now
