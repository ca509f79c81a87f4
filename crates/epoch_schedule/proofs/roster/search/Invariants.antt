use Rattle.std.proofs.Common.{◌≡◌, ℕ, ◌<◌, ◌==◌, false, Some}
use Rattle.epoch_schedule.specs.World.{HeldControl}
use Rattle.epoch_schedule.specs.Rosters.{entry}
use Rattle.epoch_schedule.proofs.roster.search.Given as goal

abbrev pub invariant-loop-index : goal.invariant-loop-index
invariant-loop-index l =
    (j : ℕ) → (other : HeldControl) → j < l.index → entry l.halves j ≡ Some other → (other.slot == l.slot) ≡ false
