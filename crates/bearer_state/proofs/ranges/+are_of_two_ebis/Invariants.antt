use Rattle.std.proofs.Common.{length}
use Rattle.bearer_state.proofs.ranges.+are_of_two_ebis.Given as goal

abbrev pub decreases-are_of_two_ebis : goal.decreases-are_of_two_ebis
decreases-are_of_two_ebis l = length l.asks.now
