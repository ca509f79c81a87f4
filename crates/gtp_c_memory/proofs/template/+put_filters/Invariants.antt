use Rattle.std.proofs.Common.{length}
use Rattle.gtp_c_memory.proofs.template.+put_filters.Given as goal

abbrev pub decreases-put_filters : goal.decreases-put_filters
decreases-put_filters l = length l.filters.now
