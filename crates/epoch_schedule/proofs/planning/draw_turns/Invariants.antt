use Rattle.std.proofs.Common.{◌*◌}
use Rattle.epoch_schedule.specs.Listed.{AreListed}
use Rattle.epoch_schedule.specs.Worlds.{world_of}
use Rattle.epoch_schedule.proofs.Epochs.{Drawing}
use Rattle.epoch_schedule.proofs.planning.draw_turns.Given as goal

abbrev pub invariant-loop : goal.invariant-loop
invariant-loop l = record {
  drawing : Drawing l.setup.rooms (2 * l.slices) l.count (world_of l.fn.numbers) (world_of l.numbers) l.state l.behind
      l.counter;
  listed : AreListed l.setup l.waiting (world_of l.numbers);
}
