use Rattle.std.proofs.Common.{length}
use Rattle.gtp_c.proofs.applying.+put_left.Given as goal

abbrev pub decreases-put_left : goal.decreases-put_left
decreases-put_left l = length l.filters.now
