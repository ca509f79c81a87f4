use Rattle.std.proofs.Common.{◌≡◌, ℕ, suc, ◌-◌, [], length, get_or}
use Rattle.epoch_schedule.proofs.waiting.reach_lane.Given as goal

abbrev pub invariant-loop-alloc : goal.invariant-loop-alloc
invariant-loop-alloc l = (other : ℕ) → get_or l.lanes.items other [] ≡ get_or l.fn.lanes.items other []

abbrev pub decreases-loop-alloc : goal.decreases-loop-alloc
decreases-loop-alloc l = suc l.lane - length l.lanes.items
