use Rattle.std.proofs.Common.{rules, List, length, ap}
use Rattle.epoch_schedule.specs.World.{World, DataNow, fresh_data, cursor_next}
use Rattle.epoch_schedule.proofs.Grown.{changed_within}
use Rattle.epoch_schedule.proofs.sides.go_round.Goals as goal

pub returns-in-Some-clause-round : goal.returns-in-Some-clause-round
returns-in-Some-clause-round c =
    let worlds : List DataNow → World = λ xs.
    record {
      slots = c.args.numbers.now.slots.items;
      controls = c.args.numbers.now.controls.items;
      datas = xs;
    } in
    ap worlds
    (changed_within fresh_data c.args.numbers.now.datas.items c.args.slice
    (λ (worker : DataNow). record worker { cursor = cursor_next worker.cursor (length worker.held) })
    c.index_mut-worker.result.now c.go_round.new.self (search rules) c.index_mut-worker.ensures.value
    c.in-Some.ensures.round)
