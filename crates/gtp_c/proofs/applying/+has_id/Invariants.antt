use Rattle.std.proofs.Common.{length}
use Rattle.gtp_c.proofs.applying.+has_id.Given as goal

abbrev pub decreases-has_id : goal.decreases-has_id
decreases-has_id l = length l.filters.now
