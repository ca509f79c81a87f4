use Rattle.std.proofs.Common.{◌≡◌, ◌+◌, nat_le, drop}
use Rattle.epoch_schedule.specs.Slots.{CommandTags}
use Rattle.epoch_schedule.proofs.Prefix.{Passed}
use Rattle.epoch_schedule.proofs.halves.learn_all.Given as goal

abbrev pub invariant-loop-tags : goal.invariant-loop-tags
invariant-loop-tags l = record {
  count : l.count ≡ l.fn.learnt + l.tags-index;
  rest : l.tags-items ≡ drop l.fn.learnt l.commands;
  passed : Passed (λ (tags : CommandTags). nat_le tags.floor l.handled) (drop l.fn.learnt l.commands) l.tags-index;
}
