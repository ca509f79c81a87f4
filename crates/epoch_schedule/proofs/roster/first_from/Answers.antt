use Rattle.std.proofs.Common.{rules, ◌∙◌}
use Rattle.epoch_schedule.proofs.Places.{still_on}
use Rattle.epoch_schedule.proofs.roster.first_from.Goals as goal

pub loop-at-preserved : goal.loop-at-preserved
loop-at-preserved c = record {
  few = search rules;
  place = still_on c.args.halves.now c.loop-at.at c.if-is_half.ensures.hole ∙ c.loop-at.invariant.place;
}
