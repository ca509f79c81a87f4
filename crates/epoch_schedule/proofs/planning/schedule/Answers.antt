use Rattle.std.proofs.Common.{rules}
use Rattle.epoch_schedule.proofs.Listing.{fresh_listed}
use Rattle.epoch_schedule.proofs.planning.schedule.Goals as goal

pub lines-requires-clause-listed : goal.lines-requires-clause-listed
lines-requires-clause-listed c =
    fresh_listed _ _ _ (search rules) (search rules) (search rules) (c.new-waiting.ensures _)
