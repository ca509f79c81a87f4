use Rattle.std.proofs.Common.{◌≡◌, drop, fold}
use Rattle.epoch_schedule.specs.Schedule.{turned}
use Rattle.epoch_schedule.specs.Listed.{AreListed}
use Rattle.epoch_schedule.specs.Worlds.{world_of}
use Rattle.epoch_schedule.proofs.turning.turn_all.Given as goal

abbrev pub invariant-loop-worker : goal.invariant-loop-worker
invariant-loop-worker l = record {
  ahead : fold (turned l.setup.rooms) (world_of l.numbers) (drop l.worker-index l.workers)
      ≡ fold (turned l.setup.rooms) (world_of l.fn.numbers) l.workers;
  listed : AreListed l.setup l.waiting (world_of l.numbers);
}
