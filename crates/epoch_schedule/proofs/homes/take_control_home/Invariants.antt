use Rattle.std.proofs.Common.{◌≡◌, drop, fold}
use Rattle.epoch_schedule.specs.World.{control_at}
use Rattle.epoch_schedule.specs.Front.{control_back}
use Rattle.epoch_schedule.specs.Listed.{AreListed}
use Rattle.epoch_schedule.specs.Worlds.{world_of}
use Rattle.epoch_schedule.proofs.homes.take_control_home.Given as goal

abbrev pub invariant-loop-place : goal.invariant-loop-place
invariant-loop-place l = record {
  kept : l.numbers.controls.items ≡ l.fn.numbers.controls.items;
  ahead : fold control_back (world_of l.numbers) (drop l.place (control_at (world_of l.fn.numbers) l.slice).home)
      ≡ fold control_back (world_of l.fn.numbers) (control_at (world_of l.fn.numbers) l.slice).home;
  listed : AreListed l.setup l.waiting (world_of l.numbers);
}
