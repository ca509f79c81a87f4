use Rattle.std.proofs.Common.{rules, ◌-◌, refl, sym, ◌∙◌}
use Rattle.epoch_schedule.specs.DataTurns.{doing, order_step, take_orders}
use Rattle.epoch_schedule.specs.Worlds.{world_of, going_of}
use Rattle.epoch_schedule.proofs.Loops.{times_more, times_done, times_stuck}
use Rattle.epoch_schedule.proofs.turning.take_orders.Goals as goal

pub loop-init : goal.loop-init
unfolding take_orders
loop-init c = record { ahead = refl; busy = c.requires.busy }

pub loop-preserved : goal.loop-preserved
loop-preserved c = record {
  ahead = times_more (order_step c.args.slice) 8 c.loop.counter (doing (world_of c.loop.numbers) (going_of c.loop.going)) _
      _ (search rules) c.in_ok-going.ensures.world c.loop.invariant.ahead;
  busy = c.in_ok-going.ensures.busy;
}

pub returns-clause-world : goal.returns-clause-world
returns-clause-world c =
    times_done (order_step c.args.slice) 8 c.loop.counter (doing (world_of c.loop.numbers) (going_of c.loop.going)) _
    (search rules) c.loop.invariant.ahead

pub returns-then-not-goes_on-clause-world : goal.returns-then-not-goes_on-clause-world
returns-then-not-goes_on-clause-world c =
    sym (times_stuck (order_step c.args.slice) (8 - c.loop.counter)
    (doing (world_of c.loop.numbers) (going_of c.loop.going))
    (c.if-not-goes_on.ensures c.args.slice (world_of c.loop.numbers)))
    ∙ c.loop.invariant.ahead
