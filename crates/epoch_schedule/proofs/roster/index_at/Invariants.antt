use Rattle.std.proofs.Common.{◌≡◌, ◌+◌}
use Rattle.epoch_schedule.specs.Rosters.{place_at}
use Rattle.epoch_schedule.proofs.roster.index_at.Given as goal

abbrev pub invariant-loop-index : goal.invariant-loop-index
invariant-loop-index l = place_at l.halves l.index + l.left ≡ l.place
