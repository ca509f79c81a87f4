use Rattle.std.proofs.Common.{◌≡◌, ◌-◌, length}
use Rattle.epoch_schedule.specs.Numbers.{for_each}
use Rattle.epoch_schedule.specs.Front.{data_home}
use Rattle.epoch_schedule.specs.Listed.{AreListed}
use Rattle.epoch_schedule.specs.Worlds.{world_of}
use Rattle.epoch_schedule.proofs.homes.datas_home.Given as goal

abbrev pub invariant-loop-slice : goal.invariant-loop-slice
invariant-loop-slice l = record {
  ahead : for_each (data_home) (world_of l.numbers) l.slice (length l.fn.numbers.datas.items - l.slice)
      ≡ for_each (data_home) (world_of l.fn.numbers) 0 (length l.fn.numbers.datas.items);
  listed : AreListed l.setup l.waiting (world_of l.numbers);
}
