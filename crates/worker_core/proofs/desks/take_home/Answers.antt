use Rattle.std.proofs.Common.{rules, refl, arith}
use Rattle.worker_core.proofs.AtDesks.{option_then}
use Rattle.lane_core.specs.Ends.{sender_lane}
use Rattle.worker_core.proofs.desks.take_home.Goals as goal

pub returns-clause-taken : goal.returns-clause-taken
returns-clause-taken g c =
    let a = c.args.desks.now.ok in
    option_then c.take.result (λ none. record {
      before = c.index_mut.result.now;
      now = record { orders = c.index_mut.result.now.orders; home = c.take.new.self };
      desk = record {
        within = omega arith;
        there = c.index_mut.ensures.value;
        changed = search rules;
        lanes = λ i. (sender_lane c.index_mut.result.now.orders, c.take.ensures.lane i);
      };
      orders = refl;
      taken = none.0;
      empties = none.1;
    }) (λ half some. record {
      before = c.index_mut.result.now;
      now = record { orders = c.index_mut.result.now.orders; home = c.take.new.self };
      desk = record {
        within = omega arith;
        there = c.index_mut.ensures.value;
        changed = search rules;
        lanes = λ i. (sender_lane c.index_mut.result.now.orders, c.take.ensures.lane i);
      };
      orders = refl;
      taken = some.0;
      empties = some.1;
    }) c.take.ensures.next
