use Rattle.std.proofs.Common.{length}
use Rattle.gtp_c.proofs.applying.+is_gone.Given as goal

abbrev pub decreases-is_gone : goal.decreases-is_gone
decreases-is_gone l = length l.entries.now
