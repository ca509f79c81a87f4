use Rattle.std.proofs.Common.{length}
use Rattle.bearer_state.proofs.ranges.+are_of_ebis.Given as goal

abbrev pub decreases-are_of_ebis : goal.decreases-are_of_ebis
decreases-are_of_ebis l = length l.asks.now
