use Rattle.std.proofs.Common.{rules}
use Rattle.epoch_schedule.proofs.roster.index_of.Goals as goal

pub by_slot-requires : goal.by_slot-requires
by_slot-requires c = c.requires (search rules)
