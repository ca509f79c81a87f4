-- How the count of full answers rises with a command or packet, once its subscriber is split.
use Rattle.std.proofs.Common.{◌≡◌, ℕ, Bool, ap, ◌∙◌}
use Rattle.front_core.specs.declared.tried.Given.TheVariants as given
use Rattle.front_core.specs.Tries.{CountsTries, raised_by}
use Rattle.front_core.specs.declared.took.Took.TheVariants as answer
use Rattle.front_core.specs.Counting.{TookTries}

pub accepted_so : (tries : ℕ) (parked so : Bool) (old mid new : ℕ) → mid ≡ old
    → CountsTries tries (given.Accepted parked) mid new → TookTries tries (answer.Accepted so) old new
accepted_so tries parked so old mid new same counts =
    (counts.0, counts.1, counts.2 ∙ ap (raised_by counts.0) same)

pub full_so : (tries old mid new : ℕ) → mid ≡ old → CountsTries tries given.Full mid new
    → TookTries tries answer.Full old new
full_so tries old mid new same counts = counts ∙ ap (raised_by tries) same
