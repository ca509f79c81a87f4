use Rattle.std.proofs.Common.{length}
use Rattle.gtp_c_base.proofs.filter.+write_components.Given as goal

abbrev pub decreases-write_components : goal.decreases-write_components
decreases-write_components l = length l.components.now
