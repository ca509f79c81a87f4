-- What one step does to the state of one slot, and which order it gives.
use Rattle.std.specs.Prelude.{◌≡◌, ℕ, ◌+◌, ◌<◌, ◌⊎◌, Bool, false, cond, List, ◌++◌, length}
use Rattle.std.specs.Prelude.{replicate, slice_set, Option, Some, None}
use Rattle.worker_core.specs.Desks.{Desk}
use Rattle.worker_core.specs.declared.order.Order.TheVariants.{Arrive, Leave}
use Rattle.migration.specs.declared.place.ControlPlace.{ControlPlace}
use Rattle.migration.specs.declared.place.ControlState.{ControlState}
use Rattle.migration.specs.declared.place.ControlState.TheVariants.{Front, Placed, Recall, Leaving}
use Rattle.worker_core.specs.Desks.{Given, Refused}
use Rattle.migration.specs.Places.{place_at, is_waiting_at, is_leaving}
use Rattle.migration.specs.Passes.{Unawaited}

-- a half is told the hop of its slot, and then it was sent to a slice, or is at the front since that lane was full
pub record Sends {H N : Type 0} (name : H → N) (hop_of : H
    → ℕ) (hop to : ℕ) (half : H) (state : ControlState H) (old new : List (Desk H)) : Type 0 where
  pub told : H
  pub named : name told ≡ name half
  pub hopped : hop_of told ≡ hop
  pub outcome : ((state ≡ Placed to) × Given to (Arrive told) old new) ⊎ ((state ≡ Front told to) × Refused to old new)

-- a slice was told that the half of a slot is to leave, or will be, since that lane was full
abbrev pub Recalls : {H : Type 0} → ℕ → ℕ → ℕ → ℕ → ControlState H → List (Desk H) → List (Desk H) → Type 0
Recalls slot at until to state old new =
    ((state ≡ Leaving at to) × Given at (Leave slot until) old new)
    ⊎ ((state ≡ Recall at until to) × Refused at old new)

module _ {H N : Type 0} (name : H → N) (hop_of : H → ℕ) where
  -- the order that a slot's state waits to give is offered once
  abbrev pub Serves : ℕ → ℕ → ControlState H → ControlState H → List (Desk H) → List (Desk H) → Type 0
  Serves slot hop (Front half to) state old new = Sends name hop_of hop to half state old new
  Serves slot hop (Placed at) state old new = (state ≡ Placed at) × (new ≡ old)
  Serves slot hop (Recall at until to) state old new = Recalls slot at until to state old new
  Serves slot hop (Leaving from to) state old new = (state ≡ Leaving from to) × (new ≡ old)

  -- the same of a place, whose hop and name stay
  abbrev pub PlaceServed : ℕ → Option (ControlPlace H) → Option (ControlPlace H) → List (Desk H) → List (Desk H)
      → Type 0
  PlaceServed slot None place old new = (place ≡ None) × (new ≡ old)
  PlaceServed slot (Some before) place old new =
      (now : ControlPlace H) × (place ≡ Some now) × (now.hop ≡ before.hop) × (now.admitted ≡ before.admitted)
      × Serves slot before.hop before.state now.state old new

  -- the same at the place of a slot, and whether it waits still
  abbrev pub ServedAt : ℕ → Bool → List (Option (ControlPlace H)) → List (Option (ControlPlace H)) → List (Desk H)
      → List (Desk H) → Type 0
  ServedAt slot waits places new_places old new =
      (place : Option (ControlPlace H)) × (new_places ≡ slice_set places slot place) × (waits ≡ is_waiting_at place)
      × PlaceServed slot (place_at places slot) place old new

-- a place waits now and didn't before, or as it did before
abbrev pub NewlyWaits : {H : Type 0} → Bool → Option (ControlPlace H) → Option (ControlPlace H) → Type 0
NewlyWaits newly old new = (x : ℕ) → cond (is_waiting_at new) x 0 ≡ cond (is_waiting_at old) x 0 + cond newly x 0

-- what a move makes of a state: the destination changes, and a half that is at a slice is told to leave it
abbrev pub Goes : {H : Type 0} → ℕ → ℕ → ℕ → ControlState H → ControlState H → List (Desk H) → List (Desk H) → Type 0
Goes slot slice until (Front half _) state old new = (state ≡ Front half slice) × (new ≡ old)
Goes slot slice until (Placed at) state old new = Recalls slot at until slice state old new
Goes slot slice until (Recall at count _) state old new = (state ≡ Recall at count slice) × (new ≡ old)
Goes slot slice until (Leaving from _) state old new = (state ≡ Leaving from slice) × (new ≡ old)

-- the slot moved once more
pub record Moves {H : Type 0} (slot slice until : ℕ) (place new_place : Option (ControlPlace H))
    (old new : List (Desk H)) : Type 0 where
  pub before : ControlPlace H
  pub now : ControlPlace H
  pub was : place ≡ Some before
  pub is : new_place ≡ Some now
  pub hop : now.hop ≡ before.hop + 1
  pub admitted : now.admitted ≡ before.admitted
  pub goes : Goes slot slice until before.state now.state old new

-- what a state becomes as a half comes home, which is handed back where it isn't expected
abbrev pub Homes : {H : Type 0} → H → ControlState H → ControlState H → Option H → Type 0
Homes half old new (Some back) = (back ≡ half) × (new ≡ old) × (is_leaving old ≡ false)
Homes half old new None = (from : ℕ) × (to : ℕ) × (old ≡ Leaving from to) × (new ≡ Front half to)

-- a half that came home stands at the front where its slot is leaving, and else it is handed back
abbrev pub Welcomes : {H : Type 0} → H → Option (ControlPlace H) → Option (ControlPlace H) → Option H → Type 0
Welcomes half place new_place (Some back) = (back ≡ half) × (new_place ≡ place) × Unawaited place
Welcomes {H} half place new_place None =
    (before : ControlPlace H) × (now : ControlPlace H) × (place ≡ Some before) × (new_place ≡ Some now)
    × (now.hop ≡ before.hop) × (now.admitted ≡ before.admitted) × Homes half before.state now.state None

-- the same of the place of a slot
abbrev pub WelcomesAt : {H : Type 0} → H → ℕ → List (Option (ControlPlace H)) → List (Option (ControlPlace H))
    → Option H → Type 0
WelcomesAt half slot places new (Some back) = (back ≡ half) × (new ≡ places) × Unawaited (place_at places slot)
WelcomesAt {H} half slot places new None =
    (place : Option (ControlPlace H)) × (slot < length places) × (new ≡ slice_set places slot place)
    × Welcomes half (place_at places slot) place None

-- the place of a slot moved, and no other one changed
abbrev pub MovesAt : {H : Type 0} → ℕ → ℕ → ℕ → List (Option (ControlPlace H)) → List (Option (ControlPlace H))
    → List (Desk H) → List (Desk H) → Type 0
MovesAt {H} slot slice until places new_places old new =
    (place : Option (ControlPlace H)) × (slot < length places) × (new_places ≡ slice_set places slot place)
    × Moves slot slice until (place_at places slot) place old new

-- a half was admitted at its slot under this hop, and sent to a slice or kept at the front, and no other slot changed
pub record Admits {H N : Type 0} (name : H → N) (hop_of : H
    → ℕ) (slot slice hop : ℕ) (half : H) (places new_places : List (Option (ControlPlace H)))
    (old new : List (Desk H)) : Type 0 where
  pub now : ControlPlace H
  pub more : ℕ
  pub within : slot < length (places ++ replicate more None)
  pub is : new_places ≡ slice_set (places ++ replicate more None) slot (Some now)
  pub hopped : now.hop ≡ hop
  pub admitted : now.admitted.value ≡ half
  pub sends : Sends name hop_of hop slice half now.state old new
