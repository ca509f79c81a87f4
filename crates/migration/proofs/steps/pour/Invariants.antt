use Rattle.std.proofs.Common.{◌≡◌, ◌+◌, ℕ, vec_len, vec_capacity}
use Rattle.std.specs.List.{sum_by}
use Rattle.migration.proofs.steps.pour.Given as goal

abbrev pub invariant-loop-slot : goal.invariant-loop-slot
invariant-loop-slot l =
    ((w : ℕ → ℕ) → sum_by w l.from.items + sum_by w l.to.items ≡ sum_by w l.fn.from.items + sum_by w l.fn.to.items)
    × (vec_len l.from + vec_len l.to ≡ vec_len l.fn.from + vec_len l.fn.to)
    × (vec_capacity l.to ≡ vec_capacity l.fn.to)
    × (vec_capacity l.from ≡ vec_capacity l.fn.from)

abbrev pub decreases-loop-slot : goal.decreases-loop-slot
decreases-loop-slot l = goal.left-loop-slot l
