use Rattle.std.proofs.Common.{◌≡◌, ◌+◌, ◌-◌, ◌≤◌, ◌++◌, true, length, vec_capacity}
use Rattle.crossbeam_queue.specs.Passes.{view, IsPassOf}
use Rattle.lane_core.proofs.closing.drained.Given as goal

abbrev pub decreases-loop-item : goal.decreases-loop-item
decreases-loop-item g l = length (view l.pass).sent - length (view l.pass).got

abbrev pub invariant-loop-item : goal.invariant-loop-item
invariant-loop-item g l = IsPassOf l.queue l.pass
    × ((view l.pass).pushes ≡ true) × ((view l.pass).pops ≡ true)
    × ((view l.pass).sent ≡ (view l.fn.pass).sent)
    × ((view l.pass).got ≡ (view l.fn.pass).got ++ l.rest.items)
    × (length (view l.pass).sent ≤ length (view l.fn.pass).got + vec_capacity l.rest)
