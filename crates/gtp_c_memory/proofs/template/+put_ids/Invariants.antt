use Rattle.std.proofs.Common.{length}
use Rattle.gtp_c_memory.proofs.template.+put_ids.Given as goal

abbrev pub decreases-put_ids : goal.decreases-put_ids
decreases-put_ids l = length l.ids.now
