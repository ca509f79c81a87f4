-- What pumping leaves of places, of the halves kept aside and of the orders sent, however many steps it takes.
use Rattle.std.specs.Prelude.{◌≡◌, ℕ, ◌≤◌, ◌⊎◌, List, [], ◌++◌, map, slice_index_or, Option, Some, None, All}
use Rattle.lane_core.specs.Ends.{sent}
use Rattle.worker_core.specs.Desks.{Desk}
use Rattle.worker_core.specs.declared.order.Order.{Order}
use Rattle.worker_core.specs.declared.order.Order.TheVariants.{Arrive, Leave}
use Rattle.migration.specs.declared.place.ControlPlace.{ControlPlace}
use Rattle.migration.specs.declared.place.ControlState.{ControlState}
use Rattle.migration.specs.declared.place.ControlState.TheVariants.{Front, Placed, Recall, Leaving}
use Rattle.migration.specs.Places.{place_at, hop_at}

module _ {H : Type 0} where
  -- how far a half is from being home: 2 where it has still to be told, 1 where it was told, and else 0
  abbrev pub stage : ControlState H → ℕ
  stage (Front _ _) = 0
  stage (Placed _) = 0
  stage (Recall _ _ _) = 2
  stage (Leaving _ _) = 1

  abbrev pub stage_at : Option (ControlPlace H) → ℕ
  stage_at None = 0
  stage_at (Some place) = stage place.state

  -- nobody told the half of this slot to leave, or it came home
  abbrev pub Unawaited : Option (ControlPlace H) → Type 0
  Unawaited place = (stage_at place ≡ 0) ⊎ (2 ≤ stage_at place)

  -- the half of a slot is to be told to leave a slice at a count
  abbrev pub IsRecall : ℕ → ℕ → ControlState H → Type 0
  IsRecall slice until (Front _ _) = ⊥
  IsRecall slice until (Placed _) = ⊥
  IsRecall slice until (Recall at count _) = (at ≡ slice) × (count ≡ until)
  IsRecall slice until (Leaving _ _) = ⊥

  abbrev pub IsRecallAt : ℕ → ℕ → Option (ControlPlace H) → Type 0
  IsRecallAt slice until None = ⊥
  IsRecallAt slice until (Some place) = IsRecall slice until place.state

  -- a place comes no further from home, is told no other count, and its hop stays
  abbrev pub Falls : Option (ControlPlace H) → Option (ControlPlace H) → Type 0
  Falls before now = (stage_at now ≤ stage_at before)
      × ((slice until : ℕ) → IsRecallAt slice until now → IsRecallAt slice until before)
      × (hop_at now ≡ hop_at before)

  -- the orders that were sent to a slice
  abbrev pub sent_at : List (Desk H) → ℕ → List (Order H)
  sent_at desks slice = slice_index_or (map (λ (desk : Desk H). sent desk.orders) desks) slice []

  -- an arriving half knows the hop of its slot, and one that is told to leave is told so at the count that was asked
  abbrev pub Lawful : (H → ℕ) → (H → ℕ) → List (Option (ControlPlace H)) → ℕ → Order H → Type 0
  Lawful slot_of hop_of places slice (Arrive half) = hop_of half ≡ hop_at (place_at places (slot_of half))
  Lawful slot_of hop_of places slice (Leave slot until) = IsRecallAt slice until (place_at places slot)

  -- the orders that were sent since are lawful
  abbrev pub Gave : (H → ℕ) → (H → ℕ) → List (Option (ControlPlace H)) → ℕ → List (Order H) → List (Order H) → Type 0
  Gave slot_of hop_of places slice before now = (more : List (Order H)) × (now ≡ before ++ more)
      × All (Lawful slot_of hop_of places slice) more

-- each half that was newly kept aside had not been told to leave, and each order that was given is what its slot asked
-- for
pub record Passes {H : Type 0} (slot_of hop_of : H → ℕ) (places new_places : List (Option (ControlPlace H)))
    (aside new_aside : List H) (old new : List (Desk H)) : Type 0 where
  pub falls : (slot : ℕ) → Falls (place_at places slot) (place_at new_places slot)
  pub more : List H
  pub kept : new_aside ≡ aside ++ more
  pub unawaited : All (λ half. (stage_at (place_at new_places (slot_of half)) ≡ 0)
      ⊎ (2 ≤ stage_at (place_at places (slot_of half)))) more
  pub orders : (slice : ℕ) → Gave slot_of hop_of places slice (sent_at old slice) (sent_at new slice)
