use Rattle.std.proofs.Common.{rules, List, drop, ap}
use Rattle.epoch_schedule.specs.World.{World, ControlNow, fresh_control}
use Rattle.epoch_schedule.proofs.Grown.{changed_within}
use Rattle.epoch_schedule.proofs.sides.take_control.Goals as goal

pub returns-in-Some-clause-rest : goal.returns-in-Some-clause-rest
returns-in-Some-clause-rest c =
    let worlds : List ControlNow → World = λ xs.
    record {
      slots = c.args.numbers.now.slots.items;
      controls = xs;
      datas = c.args.numbers.now.datas.items;
    } in
    ap worlds
    (changed_within fresh_control c.args.numbers.now.controls.items c.args.slice
    (λ (worker : ControlNow). record worker { orders = drop 1 worker.orders }) c.index_mut-worker.result.now
    c.take.new.self (search rules) c.index_mut-worker.ensures.value c.in-Some.ensures.rest)
