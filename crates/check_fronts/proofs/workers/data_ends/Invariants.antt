use Rattle.worker_core.specs.DataWorkers.{end_lanes, place_of, worker_lanes}
use Rattle.check_fronts.proofs.Ends.{HaveEnded, end_place}
use Rattle.check_fronts.proofs.workers.data_ends.Given as goal

abbrev pub invariant-loop-worker : goal.invariant-loop-worker
invariant-loop-worker l = record {
  lanes : HaveEnded worker_lanes end_lanes l.fn.workers.items l.workers.items l.ends.items;
  places : HaveEnded place_of end_place l.fn.workers.items l.workers.items l.ends.items;
}

abbrev pub decreases-loop-worker : goal.decreases-loop-worker
decreases-loop-worker l = l.workers.len
