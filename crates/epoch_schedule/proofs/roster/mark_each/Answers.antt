use Rattle.std.proofs.Common.{rules, ◌<◌, None, length, ◌∙◌}
use Rattle.epoch_schedule.specs.Rosters.{mark_entry}
use Rattle.epoch_schedule.proofs.Edited.{mapped_more}
use Rattle.epoch_schedule.proofs.roster.mark_each.Goals as goal

pub loop-index-preserved : goal.loop-index-preserved
loop-index-preserved c =
    let within : c.loop-index.index < length c.args.halves.now.items = search rules in
    c.mark_at.ensures
    ∙ mapped_more (mark_entry c.args.slot c.args.until) c.args.halves.now.items c.loop-index.halves.items
    c.loop-index.index None within c.loop-index.invariant
