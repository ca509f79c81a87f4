use Rattle.std.proofs.Common.{◌≡◌, ◌-◌, ◌≤◌, length}
use Rattle.epoch_schedule.specs.Rosters.{place_at}
use Rattle.epoch_schedule.proofs.roster.first_from.Given as goal

abbrev pub invariant-loop-at : goal.invariant-loop-at
invariant-loop-at l = record {
  few : l.at ≤ length l.halves;
  place : place_at l.halves l.at ≡ place_at l.halves l.from;
}

abbrev pub decreases-loop-at : goal.decreases-loop-at
decreases-loop-at l = length l.halves - l.at
