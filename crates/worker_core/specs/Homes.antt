-- How the lanes home of a side's desks are emptied.
use Rattle.std.specs.Prelude.{◌≡◌, ◌≢◌, ℕ, ◌+◌, ◌≤◌, ◌⊎◌, Bool, true, false, List, length}
use Rattle.worker_core.specs.declared.desks.LaneDesk.{LaneDesk}
use Rattle.worker_core.specs.Counts.{Rises}
use Rattle.worker_core.specs.Desks.{fulls_at, empties_at, home_count}

-- the lane home of a slice was empty, or 64 halves were taken from it, or no more may be kept aside
abbrev pub HomeEnded : {O H : Type 0} → ℕ → ℕ → ℕ → List (LaneDesk O H) → List (LaneDesk O H) → Type 0
HomeEnded aside admitted slice old new =
    Rises (empties_at old slice) (empties_at new slice)
    ⊎ (home_count new slice ≡ home_count old slice + 64)
    ⊎ (aside ≡ admitted)

-- no half was taken from the lane home of a slice, and no look at it found it empty
abbrev pub HomeStays : {O H : Type 0} → ℕ → List (LaneDesk O H) → List (LaneDesk O H) → Type 0
HomeStays slice old new = (home_count new slice ≡ home_count old slice) × (empties_at new slice ≡ empties_at old slice)

-- a look at the lane home of a slice: a half was taken, or none, since the lane was empty or no more may be kept
-- aside
pub record TookOne {O H A : Type 0} (went : Bool) (slice admitted : ℕ) (aside new_aside : List A)
    (old new : List (LaneDesk O H)) : Type 0 where
  pub others : (other : ℕ) → other ≢ slice → HomeStays other old new
  pub more : went ≡ true → (home_count new slice ≡ home_count old slice + 1)
      × (empties_at new slice ≡ empties_at old slice)
  pub ended : went ≡ false → Rises (empties_at old slice) (empties_at new slice) ⊎ (length new_aside ≡ admitted)
  pub aside_grows : length aside ≤ length new_aside
  pub fulls : (other : ℕ) → fulls_at new other ≡ fulls_at old other

-- the lane home of a slice was emptied as far as it may be in one go
pub record TookFrom {O H A : Type 0} (slice admitted : ℕ) (aside new_aside : List A)
    (old new : List (LaneDesk O H)) : Type 0 where
  pub others : (other : ℕ) → other ≢ slice → HomeStays other old new
  pub ended : HomeEnded (length new_aside) admitted slice old new
  pub aside_grows : length aside ≤ length new_aside
  pub fulls : (other : ℕ) → fulls_at new other ≡ fulls_at old other
