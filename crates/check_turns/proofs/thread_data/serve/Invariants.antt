use Rattle.std.proofs.Common.{◌≡◌}
use Rattle.worker_core.specs.DataWorkers.{worker_lanes}
use Rattle.check_turns.proofs.thread_data.serve.Given as goal

abbrev pub invariant-loop : goal.invariant-loop
invariant-loop g l = worker_lanes l.worker ≡ worker_lanes l.fn.worker
