use Rattle.std.proofs.Common.{◌≡◌, ℕ, ◌<◌, true}
use Rattle.epoch_schedule.specs.Waiting.{is_in}
use Rattle.epoch_schedule.proofs.roster.all_indices.Given as goal

abbrev pub invariant-loop-index : goal.invariant-loop-index
invariant-loop-index l = (i : ℕ) → i < l.index → is_in l.all.items i ≡ true
