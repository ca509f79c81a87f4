use Rattle.std.proofs.Common.{rules}
use Rattle.epoch_schedule.specs.WorldNumbers.{data_order}
use Rattle.epoch_schedule.specs.Worlds.{world_of}
use Rattle.epoch_schedule.proofs.Turned.{order_taken}
use Rattle.epoch_schedule.proofs.sides.take_next.Goals as goal

pub returns-in-Some-clause-order : goal.returns-in-Some-clause-order
returns-in-Some-clause-order c =
    order_taken c.args.slice (world_of c.args.numbers.now) c.index_mut-worker.result.now c.take_next.new.self
    (data_order c.in-Some.order) (search rules) c.index_mut-worker.ensures.value c.in-Some.ensures.order
