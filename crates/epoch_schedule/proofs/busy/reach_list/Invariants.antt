use Rattle.std.proofs.Common.{◌≡◌, ℕ, suc, ◌-◌, [], length, get_or}
use Rattle.epoch_schedule.proofs.busy.reach_list.Given as goal

abbrev pub invariant-loop-alloc : goal.invariant-loop-alloc
invariant-loop-alloc l = (other : ℕ) → get_or l.busy.items other [] ≡ get_or l.fn.busy.items other []

abbrev pub decreases-loop-alloc : goal.decreases-loop-alloc
decreases-loop-alloc l = suc l.slice - length l.busy.items
