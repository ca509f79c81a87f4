use Rattle.std.proofs.Common.{◌≡◌}
use Rattle.worker_core.specs.DataWorkers.{worker_lanes, place_of}
use Rattle.slice_core.proofs.rounds.data_round.Given as goal

abbrev pub invariant-loop : goal.invariant-loop
invariant-loop g l = (worker_lanes l.worker ≡ worker_lanes l.fn.worker) × (place_of l.worker ≡ place_of l.fn.worker)
