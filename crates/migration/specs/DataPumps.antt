-- What pumping makes of the state of each slot, and which halves it keeps aside.
use Rattle.std.specs.Prelude.{◌≡◌, ◌≢◌, ℕ, ◌⊎◌, true, List, [], ◌∷◌, ◌++◌, Option, Some, None}
use Rattle.migration.specs.declared.data_place.DataPlace.{DataPlace}
use Rattle.migration.specs.declared.data_place.DataState.{DataState}
use Rattle.migration.specs.declared.data_place.DataState.TheVariants.{Front, Placed, Recall, Leaving}
use Rattle.migration.specs.declared.data_place.UnexpectedHalf.{UnexpectedHalf}
use Rattle.migration.specs.DataPlaces.{place_at, state_at, leaves, rests}
use Rattle.migration.specs.DataSides.{is_lost}
use Rattle.migration.specs.DataQueues.{QueuesStay}

module _ {H : Type 0} where
  -- a half came home to a slot that was leaving a slice, or the state is as it was
  abbrev pub ComesHome : DataState H → DataState H → Type 0
  ComesHome (Front half to) now = now ≡ Front half to
  ComesHome (Placed at) now = now ≡ Placed at
  ComesHome (Recall at to) now = now ≡ Recall at to
  ComesHome (Leaving from to) now = (now ≡ Leaving from to) ⊎ ((half : H) × (now ≡ Front half to))

  -- the order that a state waits to give was sent, or the state is as it was
  abbrev pub IsOffered : DataState H → DataState H → Type 0
  IsOffered (Front half to) now = (now ≡ Front half to) ⊎ (now ≡ Placed to)
  IsOffered (Placed at) now = now ≡ Placed at
  IsOffered (Recall at to) now = (now ≡ Recall at to) ⊎ (now ≡ Leaving at to)
  IsOffered (Leaving from to) now = now ≡ Leaving from to

  -- what pumping makes of a state: no slot gets another destination, and none is told to leave that wasn't to
  abbrev pub Pumps : DataState H → DataState H → Type 0
  Pumps (Front half to) now = (now ≡ Front half to) ⊎ (now ≡ Placed to)
  Pumps (Placed at) now = now ≡ Placed at
  Pumps (Recall at to) now = (now ≡ Recall at to) ⊎ (now ≡ Leaving at to)
  Pumps (Leaving from to) now = (now ≡ Leaving from to) ⊎ ((half : H) × (now ≡ Front half to)) ⊎ (now ≡ Placed to)

  -- the same where there is a place
  abbrev pub AtState : (DataState H → DataState H → Type 0) → Option (DataState H) → Option (DataState H) → Type 0
  AtState Step None new = new ≡ None
  AtState Step (Some state) new = (now : DataState H) × (new ≡ Some now) × Step state now

module _ {H I : Type 0} where
  -- the same of each slot
  abbrev pub EachState : (DataState H → DataState H → Type 0) → List (Option (DataPlace H I))
      → List (Option (DataPlace H I)) → Type 0
  EachState Step places new = (slot : ℕ) → AtState Step (state_at (place_at places slot)) (state_at (place_at new slot))

-- no slot is leaving a slice
abbrev pub NoneLeaves : {H I : Type 0} → ℕ → List (Option (DataPlace H I)) → Type 0
NoneLeaves slice places = (slot : ℕ) → leaves (state_at (place_at places slot)) ≢ Some slice

module _ {H I : Type 0} (slot_of : H → ℕ) (places new_places : List (Option (DataPlace H I))) where
  -- a half that is kept aside behind others: where its slot was leaving the slice that it came from, one came home
  -- before it; or one of its slot is among the others
  abbrev pub IsUnawaited : List (UnexpectedHalf H) → UnexpectedHalf H → Type 0
  IsUnawaited others kept =
      (leaves (state_at (place_at places (slot_of kept.half))) ≡ Some kept.slice
      → rests (state_at (place_at new_places (slot_of kept.half))) ≡ true)
      ⊎ (is_lost slot_of (slot_of kept.half) others ≡ true)

  -- the same of each of these, one after another
  abbrev pub AreUnawaited : List (UnexpectedHalf H) → List (UnexpectedHalf H) → Type 0
  AreUnawaited others [] = Unit {0}
  AreUnawaited others (kept ∷ more) = IsUnawaited others kept × AreUnawaited (others ++ kept ∷ []) more

  -- no half that its slot waited for was kept aside
  pub record KeepsAside (aside new_aside : List (UnexpectedHalf H)) : Type 0 where
    pub more : List (UnexpectedHalf H)
    pub kept : new_aside ≡ aside ++ more
    pub unawaited : AreUnawaited aside more

-- halves came home, no order was offered, and no queue changed
pub record TakesHome {H I : Type 0} (slot_of : H → ℕ) (places new_places : List (Option (DataPlace H I)))
    (aside new_aside : List (UnexpectedHalf H)) : Type 0 where
  pub states : EachState ComesHome places new_places
  pub queues : QueuesStay places new_places
  pub keeps : KeepsAside slot_of places new_places aside new_aside
