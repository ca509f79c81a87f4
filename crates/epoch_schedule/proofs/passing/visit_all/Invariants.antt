use Rattle.std.proofs.Common.{◌-◌}
use Rattle.epoch_schedule.specs.Listed.{AreListed}
use Rattle.epoch_schedule.specs.Setups.{bounds_of}
use Rattle.epoch_schedule.specs.Waiting.{passed_by}
use Rattle.epoch_schedule.specs.Worlds.{world_of}
use Rattle.epoch_schedule.proofs.Passes.{Passing}
use Rattle.epoch_schedule.proofs.passing.visit_all.Given as goal

abbrev pub invariant-loop-next : goal.invariant-loop-next
invariant-loop-next l = record {
  passing : Passing l.pass l.setup.rooms (bounds_of l.setup) (world_of l.fn.numbers)
      (passed_by l.pass l.setup.rooms (bounds_of l.setup) (world_of l.fn.numbers)) l.from (world_of l.numbers);
  listed : AreListed l.setup l.waiting (world_of l.numbers);
}

abbrev pub decreases-loop-next : goal.decreases-loop-next
decreases-loop-next l = l.count - l.from
