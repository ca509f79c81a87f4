use Rattle.std.proofs.Common.{◌≡◌, ◌≤◌}
use Rattle.epoch_schedule.specs.Halves.{fits}
use Rattle.epoch_schedule.proofs.Prefix.{Passed}
use Rattle.epoch_schedule.proofs.halves.batch_of.Given as goal

abbrev pub invariant-loop-tags : goal.invariant-loop-tags
invariant-loop-tags l = record {
  count : l.count ≡ l.tags-index;
  few : l.tags-index ≤ 16;
  passed : Passed (fits l.hop l.floor) l.commands l.tags-index;
}
