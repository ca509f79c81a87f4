use Rattle.std.proofs.Common.{length}
use Rattle.gtp_c.proofs.imsi.+fill.Given as goal

abbrev pub decreases-fill : goal.decreases-fill
decreases-fill l = length l.octets.now
