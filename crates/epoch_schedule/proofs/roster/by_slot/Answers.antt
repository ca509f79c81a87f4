use Rattle.std.proofs.Common.{rules, ◌≤◌, length}
use Rattle.epoch_schedule.proofs.Indices.{lacks_by}
use Rattle.epoch_schedule.proofs.roster.by_slot.Goals as goal

pub returns-then-slot-index-clause-none : goal.returns-then-slot-index-clause-none
returns-then-slot-index-clause-none c =
    let past : length c.args.index.now ≤ c.args.slot = search rules in
    lacks_by c.args.halves.now c.args.index.now c.args.slot c.requires past
