use Rattle.std.proofs.Common.{ℕ, ◌-◌, ◌<◌, ◌≤◌, length, get_or}
use Rattle.epoch_schedule.specs.Rounds.{place_held}
use Rattle.epoch_schedule.proofs.busy.place_among.Given as goal

abbrev pub invariant-loop-from : goal.invariant-loop-from
invariant-loop-from l = record {
  order : l.from ≤ l.to;
  few : l.to ≤ length l.list;
  before : (j : ℕ) → j < l.from → place_held (get_or l.list j 0) l.roster.held < place_held l.slot l.roster.held;
  behind : (j : ℕ) → l.to ≤ j → j < length l.list
      → place_held l.slot l.roster.held ≤ place_held (get_or l.list j 0) l.roster.held;
}

abbrev pub decreases-loop-from : goal.decreases-loop-from
decreases-loop-from l = l.to - l.from
