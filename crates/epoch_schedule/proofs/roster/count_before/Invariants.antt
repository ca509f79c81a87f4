use Rattle.std.proofs.Common.{◌≡◌, ◌≤◌}
use Rattle.epoch_schedule.specs.Rosters.{place_at}
use Rattle.epoch_schedule.proofs.roster.count_before.Given as goal

abbrev pub invariant-loop-at : goal.invariant-loop-at
invariant-loop-at l = record {
  count : l.count ≡ place_at l.halves l.at;
  few : l.count ≤ l.at;
}
