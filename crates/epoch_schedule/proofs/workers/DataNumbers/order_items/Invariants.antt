use Rattle.std.proofs.Common.{◌≡◌, ◌++◌, replicate}
use Rattle.epoch_schedule.specs.World as world
use Rattle.epoch_schedule.proofs.workers.DataNumbers.order_items.Given as goal

abbrev pub invariant-loop : goal.invariant-loop
invariant-loop l = l.self ≡ record l.fn.self { orders = l.fn.self.orders ++ replicate l.counter (world.item l.slot) }
