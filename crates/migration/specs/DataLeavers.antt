-- How many slots are leaving each slice.
use Rattle.std.specs.Prelude.{◌≡◌, ℕ, ◌+◌, ◌==◌, Bool, true, false, nat_lt, List, count_by, is_some, slice_index_or}
use Rattle.std.specs.Prelude.{Option, Some, None}
use Rattle.migration.specs.declared.data_leavers.Leavers.{Leavers}
use Rattle.migration.specs.declared.data_place.DataPlace.{DataPlace}
use Rattle.migration.specs.DataPlaces.{state_at, leaves}

-- whether this slice is left
abbrev pub is_at : ℕ → Option ℕ → Bool
is_at slice None = false
is_at slice (Some at) = at == slice

abbrev pub one_if : Bool → ℕ
one_if true = 1
one_if false = 0

module _ {H I : Type 0} where
  -- how many slots are leaving a slice
  abbrev pub leavers_of : ℕ → List (Option (DataPlace H I)) → ℕ
  leavers_of slice places =
      count_by (λ (place : Option (DataPlace H I)). is_at slice (leaves (state_at place))) places

  -- whether one is
  abbrev pub is_left : List (Option (DataPlace H I)) → ℕ → Bool
  is_left places slice = nat_lt 0 (leavers_of slice places)

  -- those that are leaving each slice were counted, and all
  pub record Counts (places : List (Option (DataPlace H I))) (leavers : Leavers) : Type 0 where
    pub each : (slice : ℕ) → slice_index_or leavers.at slice 0 ≡ leavers_of slice places
    pub all : leavers.all ≡ count_by (λ (place : Option (DataPlace H I)). is_some (leaves (state_at place))) places

-- one fewer is leaving a slice, or one more
abbrev pub Fewer : ℕ → List ℕ → List ℕ → Type 0
Fewer slice old new = (other : ℕ) → slice_index_or new other 0 + one_if (slice == other) ≡ slice_index_or old other 0

abbrev pub More : ℕ → List ℕ → List ℕ → Type 0
More slice old new = (other : ℕ) → slice_index_or new other 0 ≡ slice_index_or old other 0 + one_if (slice == other)

-- a slot that was leaving one slice, or none, is leaving another one, or none
pub record Shifts (was is : Option ℕ) (old new : Leavers) : Type 0 where
  pub each : (slice : ℕ) → slice_index_or new.at slice 0 + one_if (is_at slice was)
      ≡ slice_index_or old.at slice 0 + one_if (is_at slice is)
  pub all : new.all + one_if (is_some was) ≡ old.all + one_if (is_some is)
