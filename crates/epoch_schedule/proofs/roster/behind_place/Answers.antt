use Rattle.std.proofs.Common.{sym}
use Rattle.epoch_schedule.proofs.roster.behind_place.Goals as goal

pub returns-clause-place : goal.returns-clause-place
returns-clause-place c =
    c.settle_behind.ensures.place c.args.place (λ within. sym (c.index_at.ensures.place within)) c.index_at.ensures.none
