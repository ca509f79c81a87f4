-- How the count of full answers rises with a line.
use Rattle.std.specs.Prelude.{◌≡◌, ℕ, ◌<◌}
use Rattle.front_core.specs.Tries.{RisesBy}
use Rattle.front_core.specs.declared.took.Took.{Took}
use Rattle.front_core.specs.declared.took.Took.TheVariants as answer

-- By one for each try that was refused: so are all of a line that is, and fewer of one that is accepted; and by nothing
-- where none is made.
abbrev pub TookTries : (tries : ℕ) → Took → ℕ → ℕ → Type 0
TookTries tries answer.Answered old new = new ≡ old
TookTries tries (answer.Accepted parked) old new = (failed : ℕ) × (failed < tries) × RisesBy failed old new
TookTries tries answer.Full old new = RisesBy tries old new
