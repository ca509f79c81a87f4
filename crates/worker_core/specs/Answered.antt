-- What the halves of a worker answered, each in its turn.
use Rattle.std.specs.Prelude.{◌≡◌, ℕ, ◌+◌, ◌<◌, ◌≤◌, ◌⊎◌, List, length, slice_index_or, Result, IfOk}
use Rattle.lane_core.specs.declared.did.Did.{Did}
use Rattle.lane_core.specs.declared.did.Did.TheVariants.{Idle, Held, Worked}
use Rattle.worker_core.specs.Turns.{steps_to, count_at, works_after, AreTurned}

-- given by what a half tells of an answer
module _ {H : Type 0} (came_to : Did → H → H → Type 0) where
  -- the half at an index answered its turn so
  abbrev pub AnswersAt : Did → ℕ → List H → List H → Type 0
  AnswersAt did k old new = (none : H) → came_to did (slice_index_or old k none) (slice_index_or new k none)

  -- it had nothing to do, or could not send on what it had
  abbrev pub RestsAt : ℕ → List H → List H → Type 0
  RestsAt k old new = AnswersAt Idle k old new ⊎ AnswersAt Held k old new

  -- the same of each from one index up to another
  pub record AllRest (from to : ℕ) (old new : List H) : Type 0 where
    pub rests : (k : ℕ) → from ≤ k → k < to → RestsAt k old new

  -- from the cursor round, the half at an index worked, and none before it did
  pub record AnswersRound (cursor at : ℕ) (old new : List H) : Type 0 where
    pub worked : AnswersAt Worked at old new
    pub before : (k : ℕ) → k < length old → steps_to cursor (length old) k < steps_to cursor (length old) at
        → RestsAt k old new

-- a half of this slot was turned at this place, as its turn's result tells, and no other one was touched
pub record TurnedOne {H E : Type 0} (slot_at turns works : H → ℕ) (turned_at : H → ℕ
    → Type 0) (came_to : Did → H → H → Type 0) (result : Result Did E) (place slot : ℕ) (old new : List H) : Type 0
  where
    pub at : ℕ
    pub within : at < length old
    pub of_slot : (none : H) → slot_at (slice_index_or old at none) ≡ slot
    pub turned : AreTurned turns turned_at place at (at + 1) old new
    pub counted : count_at works new at ≡ works_after result (count_at works old at)
    pub answered : IfOk result (λ did. AnswersAt came_to did at old new)
