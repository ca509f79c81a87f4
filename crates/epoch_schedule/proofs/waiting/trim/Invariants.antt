use Rattle.std.proofs.Common.{◌≡◌, ℕ, [], length, get_or}
use Rattle.epoch_schedule.proofs.waiting.trim.Given as goal

abbrev pub invariant-loop-lanes : goal.invariant-loop-lanes
invariant-loop-lanes l = (other : ℕ) → get_or l.lanes.items other [] ≡ get_or l.fn.lanes.items other []

abbrev pub decreases-loop-lanes : goal.decreases-loop-lanes
decreases-loop-lanes l = length l.lanes.items
