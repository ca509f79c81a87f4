use Rattle.std.proofs.Common.{◌-◌, ◌≤◌, ℕ, vec_len}
use Rattle.worker_core.specs.BySlot.{Grown}
use Rattle.worker_core.proofs.by_slot.grow.Given as goal

abbrev pub decreases-loop-places : goal.decreases-loop-places
decreases-loop-places g l = l.len - vec_len l.places

abbrev pub invariant-loop-places : goal.invariant-loop-places
invariant-loop-places g l = Grown l.fn.places.items l.places.items
    × ((most : ℕ) → l.len ≤ most → vec_len l.fn.places ≤ most → vec_len l.places ≤ most)
