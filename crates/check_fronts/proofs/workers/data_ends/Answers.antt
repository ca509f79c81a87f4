use Rattle.std.proofs.Common.{◌≡◌, length, arith}
use Rattle.worker_core.specs.DataWorkers.{end_lanes, place_of, worker_lanes}
use Rattle.front_core.proofs.Popping.{popped_none}
use Rattle.check_fronts.proofs.Ends.{all_ended, end_place, none_ended, nothing_left, one_ended}
use Rattle.check_fronts.proofs.workers.data_ends.Goals as goal

pub loop-worker-init : goal.loop-worker-init
loop-worker-init c = record {
  lanes = none_ended worker_lanes end_lanes c.args.workers.items c.reverse.new.self.items c.new-ends.result.items
      c.reverse.ensures.items c.new-ends.ensures.items;
  places = none_ended place_of end_place c.args.workers.items c.reverse.new.self.items c.new-ends.result.items
      c.reverse.ensures.items c.new-ends.ensures.items;
}

pub loop-worker-preserved : goal.loop-worker-preserved
loop-worker-preserved c = record {
  lanes = one_ended worker_lanes end_lanes c.args.workers.items c.loop-worker.workers.items c.pop.new.self.items
      c.loop-worker.ends.items c.push.new.self.items c.in-Some.worker c.into_end.result c.in-Some.ensures.items
      c.into_end.ensures.lanes c.in_ok-push.ensures.items c.loop-worker.invariant.lanes;
  places = one_ended place_of end_place c.args.workers.items c.loop-worker.workers.items c.pop.new.self.items
      c.loop-worker.ends.items c.push.new.self.items c.in-Some.worker c.into_end.result c.in-Some.ensures.items
      c.into_end.ensures.place c.in_ok-push.ensures.items c.loop-worker.invariant.places;
}

pub loop-worker-smaller : goal.loop-worker-smaller
loop-worker-smaller c = let fewer = c.in-Some.ensures.cases in omega (arith, fewer)

pub returns-clause-lanes : goal.returns-clause-lanes
returns-clause-lanes c =
    let gone = popped_none c.pop.result c.loop-worker.workers.len c.pop.new.self.len c.pop.ensures.cases c.in_default.is
    in
    let none : length c.loop-worker.workers.items ≡ 0 = omega (arith, gone, c.loop-worker.workers.ok) in
    all_ended worker_lanes end_lanes c.args.workers.items c.loop-worker.workers.items c.loop-worker.ends.items
    (nothing_left c.loop-worker.workers.items none) c.loop-worker.invariant.lanes

pub returns-clause-places : goal.returns-clause-places
returns-clause-places c =
    let gone = popped_none c.pop.result c.loop-worker.workers.len c.pop.new.self.len c.pop.ensures.cases c.in_default.is
    in
    let none : length c.loop-worker.workers.items ≡ 0 = omega (arith, gone, c.loop-worker.workers.ok) in
    all_ended place_of end_place c.args.workers.items c.loop-worker.workers.items c.loop-worker.ends.items
    (nothing_left c.loop-worker.workers.items none) c.loop-worker.invariant.places
