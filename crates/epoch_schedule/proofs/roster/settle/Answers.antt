use Rattle.std.proofs.Common.{rules, ◌<◌, length}
use Rattle.epoch_schedule.proofs.Places.{settled_at}
use Rattle.epoch_schedule.proofs.roster.settle.Goals as goal

pub returns-then-at-halves-clause-place : goal.returns-then-at-halves-clause-place
returns-then-at-halves-clause-place c =
    let within : c.first_from-at.result < length c.args.halves.now = search rules in
    settled_at c.args.halves.now c.first_from-at.result c.args.from (c.first_from-at.ensures.here within)
    c.first_from-at.ensures.place
