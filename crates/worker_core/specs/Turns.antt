-- Which halves were turned, and which of them worked.
use Rattle.std.specs.Prelude.{◌≡◌, ◌≢◌, ℕ, ◌+◌, ◌-◌, ◌<◌, ◌≤◌, ◌⊎◌, if◌then◌else◌}
use Rattle.std.specs.Prelude.{nat_le, List, length, map, slice_index, slice_index_or, Result, Ok, Err}
use Rattle.lane_core.specs.declared.did.Did.{Did}
use Rattle.lane_core.specs.declared.did.Did.TheVariants.{Idle, Held, Worked}
use Rattle.lane_core.specs.Ends.{raised}

-- a count of the turns that worked, after one more turn
abbrev pub works_after : {E : Type 0} → Result Did E → ℕ → ℕ
works_after (Ok Worked) n = raised n
works_after (Ok Idle) n = n
works_after (Ok Held) n = n
works_after (Err _) n = n

-- the count of the half at k, or 0 where none is
abbrev pub count_at : {H : Type 0} → (H → ℕ) → List H → ℕ → ℕ
count_at count held k = slice_index (map count held) k

-- the halves from one index up to another were turned at this place, and no other one was touched
pub record AreTurned {H : Type 0} (turns : H → ℕ) (turned_at : H → ℕ
    → Type 0) (place from to : ℕ) (old new : List H) : Type 0 where
  pub turned : (k : ℕ) → from ≤ k → k < to → count_at turns new k ≡ raised (count_at turns old k)
  pub placed : (k : ℕ) (none : H) → from ≤ k → k < to → turned_at (slice_index_or new k none) place
  pub others : (k : ℕ) (none : H) → (k < from) ⊎ (to ≤ k) → slice_index_or new k none ≡ slice_index_or old k none

-- no half worked
abbrev pub NoneWorked : {H : Type 0} → (H → ℕ) → List H → List H → Type 0
NoneWorked works old new = (k : ℕ) → count_at works new k ≡ count_at works old k

-- the half at an index worked, and no other one
pub record WorkedAlone {H : Type 0} (works : H → ℕ) (at : ℕ) (old new : List H) : Type 0 where
  pub within : at < length old
  pub here : count_at works new at ≡ raised (count_at works old at)
  pub others : (k : ℕ) → k ≢ at → count_at works new k ≡ count_at works old k

-- how many halves stand before the one at k, from a cursor to the last of so many and then from the first
abbrev pub steps_to : ℕ → ℕ → ℕ → ℕ
steps_to cursor len k = if nat_le cursor k then k - cursor else k + (len - cursor)

-- from the cursor round, the halves up to the one at an index were turned at this place, that one worked alone, and
-- those behind it weren't touched
pub record WorkedRound {H : Type 0} (turns works : H → ℕ) (turned_at : H → ℕ
    → Type 0) (place cursor at : ℕ) (old new : List H) : Type 0 where
  pub worked : WorkedAlone works at old new
  pub turned : (k : ℕ) → k < length old → steps_to cursor (length old) k ≤ steps_to cursor (length old) at
      → count_at turns new k ≡ raised (count_at turns old k)
  pub placed : (k : ℕ) (none : H) → k < length old → steps_to cursor (length old) k ≤ steps_to cursor (length old) at
      → turned_at (slice_index_or new k none) place
  pub behind : (k : ℕ) (none : H) → k < length old → steps_to cursor (length old) at < steps_to cursor (length old) k
      → slice_index_or new k none ≡ slice_index_or old k none

-- each half was turned at this place, and none worked
pub record AllTurned {H : Type 0} (turns works : H → ℕ) (turned_at : H → ℕ
    → Type 0) (place : ℕ) (old new : List H) : Type 0 where
  pub turned : AreTurned turns turned_at place 0 (length old) old new
  pub idle : NoneWorked works old new
