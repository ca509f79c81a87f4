use Rattle.std.proofs.Common.{◌≡◌, drop, fold}
use Rattle.epoch_schedule.specs.World.{data_at}
use Rattle.epoch_schedule.specs.Front.{data_back}
use Rattle.epoch_schedule.specs.Listed.{AreListed}
use Rattle.epoch_schedule.specs.Worlds.{world_of}
use Rattle.epoch_schedule.proofs.homes.take_data_home.Given as goal

abbrev pub invariant-loop-place : goal.invariant-loop-place
invariant-loop-place l = record {
  kept : l.numbers.datas.items ≡ l.fn.numbers.datas.items;
  ahead : fold data_back (world_of l.numbers) (drop l.place (data_at (world_of l.fn.numbers) l.slice).home)
      ≡ fold data_back (world_of l.fn.numbers) (data_at (world_of l.fn.numbers) l.slice).home;
  listed : AreListed l.setup l.waiting (world_of l.numbers);
}
