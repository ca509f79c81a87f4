use Rattle.std.proofs.Common.{length}
use Rattle.gtp_c.proofs.applying.+none_left.Given as goal

abbrev pub decreases-none_left : goal.decreases-none_left
decreases-none_left l = length l.filters.now
