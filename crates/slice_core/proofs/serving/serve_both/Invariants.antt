use Rattle.std.proofs.Common.{◌≡◌}
use Rattle.worker_core.specs.Workers as control
use Rattle.worker_core.specs.DataWorkers as data_half
use Rattle.slice_core.proofs.serving.serve_both.Given as goal

abbrev pub invariant-loop : goal.invariant-loop
invariant-loop g l =
    (control.worker_lanes l.control ≡ control.worker_lanes l.fn.control)
    × (control.place_of l.control ≡ control.place_of l.fn.control)
    × (data_half.worker_lanes l.data_half ≡ data_half.worker_lanes l.fn.data_half) × (data_half.place_of l.data_half ≡ data_half.place_of l.fn.data_half)
