-- What a schedule says.
use Rattle.std.specs.Prelude.{ℕ, List, [], get_or}
use Rattle.epoch_schedule.specs.Front.{Outcome}
use Rattle.epoch_schedule.specs.Slots.{Met}

-- what becomes of each line, and by slot what its packets meet
pub record Plan : Type 0 where
  pub outcomes : List Outcome
  pub mets : List (List Met)

abbrev pub mets_of : Plan → ℕ → List Met
mets_of plan slot = get_or plan.mets slot []
