use Rattle.std.proofs.Common.{length}
use Rattle.gtp_c.proofs.applying.+replacement.Given as goal

abbrev pub decreases-replacement : goal.decreases-replacement
decreases-replacement l = length l.entries.now
