use Rattle.epoch_schedule.specs.Listed.{AreListed}
use Rattle.epoch_schedule.specs.Setups.{bounds_of}
use Rattle.epoch_schedule.specs.Worlds.{world_of}
use Rattle.epoch_schedule.proofs.Epochs.{SoFar}
use Rattle.epoch_schedule.proofs.planning.lines.Given as goal

abbrev pub invariant-loop-ask : goal.invariant-loop-ask
invariant-loop-ask l = record {
  so_far : SoFar l.setup.rooms (bounds_of l.setup) l.slices l.asks (world_of l.fn.numbers) (world_of l.numbers)
      l.fn.turns l.turns l.outcomes.items l.ask-index;
  listed : AreListed l.setup l.waiting (world_of l.numbers);
}
