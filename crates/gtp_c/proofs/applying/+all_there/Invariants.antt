use Rattle.std.proofs.Common.{length}
use Rattle.gtp_c.proofs.applying.+all_there.Given as goal

abbrev pub decreases-all_there : goal.decreases-all_there
decreases-all_there l = length l.entries.now
