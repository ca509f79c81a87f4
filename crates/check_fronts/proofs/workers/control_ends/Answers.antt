use Rattle.std.proofs.Common.{◌≡◌, length, arith}
use Rattle.worker_core.specs.Workers.{end_lanes, worker_lanes}
use Rattle.front_core.proofs.Popping.{popped_none}
use Rattle.check_fronts.proofs.Ends.{all_ended, none_ended, nothing_left, one_ended}
use Rattle.check_fronts.proofs.workers.control_ends.Goals as goal

pub loop-worker-init : goal.loop-worker-init
loop-worker-init c =
    none_ended worker_lanes end_lanes c.args.workers.items c.reverse.new.self.items c.new-ends.result.items
    c.reverse.ensures.items c.new-ends.ensures.items

pub loop-worker-preserved : goal.loop-worker-preserved
loop-worker-preserved c =
    one_ended worker_lanes end_lanes c.args.workers.items c.loop-worker.workers.items c.pop.new.self.items
    c.loop-worker.ends.items c.push.new.self.items c.in-Some.worker c.into_end.result c.in-Some.ensures.items
    c.into_end.ensures.lanes c.in_ok-push.ensures.items c.loop-worker.invariant

pub loop-worker-smaller : goal.loop-worker-smaller
loop-worker-smaller c = let fewer = c.in-Some.ensures.cases in omega (arith, fewer)

pub returns : goal.returns
returns c =
    let gone = popped_none c.pop.result c.loop-worker.workers.len c.pop.new.self.len c.pop.ensures.cases c.in_default.is
    in
    let none : length c.loop-worker.workers.items ≡ 0 = omega (arith, gone, c.loop-worker.workers.ok) in
    all_ended worker_lanes end_lanes c.args.workers.items c.loop-worker.workers.items c.loop-worker.ends.items
    (nothing_left c.loop-worker.workers.items none) c.loop-worker.invariant
