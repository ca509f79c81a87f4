use Rattle.std.proofs.Common.{◌≡◌, ◌-◌, []}
use Rattle.epoch_schedule.specs.Numbers.{times}
use Rattle.epoch_schedule.specs.DataTurns.{doing, order_step, take_orders}
use Rattle.epoch_schedule.specs.Busy.{AreBusyBut}
use Rattle.epoch_schedule.specs.Worlds.{world_of, going_of}
use Rattle.epoch_schedule.proofs.turning.take_orders.Given as goal

abbrev pub invariant-loop : goal.invariant-loop
invariant-loop l = record {
  ahead : times (8 - l.counter) (order_step l.slice) (doing (world_of l.numbers) (going_of l.going))
      ≡ take_orders l.slice (doing (world_of l.fn.numbers) (going_of l.fn.first));
  busy : AreBusyBut l.setup.rooms.room [] l.busy.items (world_of l.numbers);
}
