use Rattle.std.proofs.Common.{rules, ◌<◌, length, ◌∙◌}
use Rattle.epoch_schedule.specs.Rosters.{present}
use Rattle.epoch_schedule.proofs.Places.{settled_behind}
use Rattle.epoch_schedule.proofs.roster.settle_behind.Goals as goal

pub returns-then-at-halves-clause-place : goal.returns-then-at-halves-clause-place
returns-then-at-halves-clause-place c place own past =
    let within : c.args.at < length c.args.halves.now = search rules in
    c.settle.ensures.place
    ∙ settled_behind c.args.halves.now c.args.at place (length (present c.args.halves.now)) (c.requires within)
    (own within)
