use Rattle.std.proofs.Common.{◌≡◌}
use Rattle.worker_core.specs.Workers.{worker_lanes, place_of}
use Rattle.check_turns.proofs.thread_control.serve.Given as goal

abbrev pub invariant-loop : goal.invariant-loop
invariant-loop g l = (worker_lanes l.worker ≡ worker_lanes l.fn.worker) × (place_of l.worker ≡ place_of l.fn.worker)
