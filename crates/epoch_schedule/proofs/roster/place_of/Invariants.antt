use Rattle.std.proofs.Common.{◌≡◌, ℕ, ◌==◌, not}
use Rattle.epoch_schedule.proofs.Prefix.{Passed}
use Rattle.epoch_schedule.proofs.roster.place_of.Given as goal

abbrev pub invariant-loop-other : goal.invariant-loop-other
invariant-loop-other l = record {
  count : l.place ≡ l.other-index;
  passed : Passed (λ (other : ℕ). not (other == l.number)) l.list l.other-index;
}
