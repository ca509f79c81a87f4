use Rattle.std.proofs.Common.{◌≡◌, ◌-◌, length}
use Rattle.epoch_schedule.specs.Numbers.{for_each}
use Rattle.epoch_schedule.specs.Front.{control_home}
use Rattle.epoch_schedule.specs.Listed.{AreListed}
use Rattle.epoch_schedule.specs.Worlds.{world_of}
use Rattle.epoch_schedule.proofs.homes.controls_home.Given as goal

abbrev pub invariant-loop-slice : goal.invariant-loop-slice
invariant-loop-slice l = record {
  ahead : for_each (control_home) (world_of l.numbers) l.slice (length l.fn.numbers.controls.items - l.slice)
      ≡ for_each (control_home) (world_of l.fn.numbers) 0 (length l.fn.numbers.controls.items);
  listed : AreListed l.setup l.waiting (world_of l.numbers);
}
