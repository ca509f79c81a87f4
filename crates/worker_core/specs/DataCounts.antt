-- Counts of what a half learns.
use Rattle.std.specs.Prelude.{◌≡◌, ℕ, ◌+◌, ◌⊎◌, if◌then◌else◌, Bool}
use Rattle.std.specs.Prelude.{List, map, slice_index, Result, Ok, Err}
use Rattle.lane_core.specs.Ends.{raised}

-- a count of what was learnt, after one more call that learnt something or not
abbrev pub learnt_count : Bool → ℕ → ℕ
learnt_count learnt n = if learnt then raised n else n

abbrev pub learns_after : {E : Type 0} → Result Bool E → ℕ → ℕ
learns_after (Ok learnt) n = learnt_count learnt n
learns_after (Err _) n = n

-- why learning stopped: as many batches were learnt as may be at most, none came, or the floor of the next one isn't
-- met
abbrev pub LearnStops : ℕ → (batches now_batches empties now_empties : ℕ) → Type 0 → Type 0
LearnStops most batches now_batches empties now_empties Awaits =
    (now_batches ≡ batches + most) ⊎ (now_empties ≡ raised empties) ⊎ Awaits

-- the count of the half at an index, or 0 where none is
abbrev pub count_at : {H : Type 0} → (H → ℕ) → List H → ℕ → ℕ
count_at count held k = slice_index (map count held) k
