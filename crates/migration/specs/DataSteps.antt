-- What one step does to the state of one slot, to its queue, and to the desks.
use Rattle.std.specs.Prelude.{◌≡◌, ℕ, ◌+◌, ◌<◌, ◌≤◌, ◌⊎◌, Bool, true, false, List, [], ◌∷◌}
use Rattle.std.specs.Prelude.{◌++◌, length, slice_set, Option, Some, None, Result, Ok, Err, IfOk}
use Rattle.lane_core.specs.Ends.{raised}
use Rattle.worker_core.specs.DataDesks.{DataDesk}
use Rattle.worker_core.specs.declared.data_order.DataOrder.TheVariants.{Arrive, Item, Leave}
use Rattle.worker_core.specs.Counts.{Rises}
use Rattle.migration.specs.declared.data_place.DataPlace.{DataPlace}
use Rattle.migration.specs.declared.data_place.DataState.{DataState}
use Rattle.migration.specs.declared.data_place.DataState.TheVariants.{Front, Placed, Recall, Leaving}
use Rattle.migration.specs.declared.data_place.DataNo.{DataNo}
use Rattle.migration.specs.declared.data_place.DataNo.TheVariants.{Full, NoMemory}
use Rattle.worker_core.specs.Desks.{fulls_at, Given, Refused}
use Rattle.migration.specs.DataPlaces.{place_at, accepted_by, parks_at, waits_at, queues_for, queue_at}
use Rattle.migration.specs.DataPlaces.{moved_at, accepted_at, state_at, leaves, Fits}
use Rattle.migration.specs.declared.data_place.UnexpectedHalf.{UnexpectedHalf}
use Rattle.migration.specs.DataSides.{is_lost}
use Rattle.migration.specs.DataKeeps.{Keeps, PlaceKeeps}
use Rattle.migration.specs.DataQueues.{Shortens}

module _ {H I : Type 0} where
  -- a half was sent to a slice, or is at the front since that lane was full
  abbrev pub Sends : H → ℕ → DataState H → List (DataDesk H I) → List (DataDesk H I) → Type 0
  Sends half to state old new = ((state ≡ Placed to) × Given to (Arrive half) old new) ⊎ ((state ≡ Front half to)
      × Refused to old new)

  -- a slice was told that the half of a slot is to leave, or will be, since that lane was full
  abbrev pub Recalls : ℕ → ℕ → ℕ → DataState H → List (DataDesk H I) → List (DataDesk H I) → Type 0
  Recalls slot at to state old new = ((state ≡ Leaving at to) × Given at (Leave slot) old new)
      ⊎ ((state ≡ Recall at to) × Refused at old new)

  -- the order that a slot's state waits to give is offered once
  abbrev pub Serves : ℕ → DataState H → DataState H → List (DataDesk H I) → List (DataDesk H I) → Type 0
  Serves slot (Front half to) state old new = Sends half to state old new
  Serves slot (Placed at) state old new = (state ≡ Placed at) × (new ≡ old)
  Serves slot (Recall at to) state old new = Recalls slot at to state old new
  Serves slot (Leaving from to) state old new = (state ≡ Leaving from to) × (new ≡ old)

  -- what a move makes of a state: the destination changes, and a half that is at a slice is told to leave it
  abbrev pub Goes : ℕ → ℕ → DataState H → DataState H → List (DataDesk H I) → List (DataDesk H I) → Type 0
  Goes slot slice (Front half _) state old new = (state ≡ Front half slice) × (new ≡ old)
  Goes slot slice (Placed at) state old new = Recalls slot at slice state old new
  Goes slot slice (Recall at _) state old new = (state ≡ Recall at slice) × (new ≡ old)
  Goes slot slice (Leaving from _) state old new = (state ≡ Leaving from slice) × (new ≡ old)

-- the first item of a queue was sent
pub record SentFirst {H I : Type 0} (at : ℕ) (queue left : List I) (old new : List (DataDesk H I)) : Type 0 where
  pub item : I
  pub first : queue ≡ item ∷ left
  pub given : Given at (Item item) old new

-- no item of a queue was sent: it is empty, or the lane of its slice was full
abbrev pub QueueRests : {H I : Type 0} → ℕ → List I → List (DataDesk H I) → List (DataDesk H I) → Type 0
QueueRests at queue old new = ((queue ≡ []) × (new ≡ old)) ⊎ Refused at old new

module _ {H I : Type 0} (slot_of : H → ℕ) (item_slot : I → ℕ) (handled : H → List I) (slot : ℕ) where
  -- items of a queue were sent to the slice where the half is placed, until one was refused
  pub record Empties (at : ℕ) (queue left : List I) (old new : List (DataDesk H I)) : Type 0 where
    pub keeps : (accepted : List I) → Keeps slot_of item_slot handled slot 0
        (record { state = Placed at; queue = queue; accepted = accepted; desks = old })
        (record { state = Placed at; queue = left; accepted = accepted; desks = new })
    pub short : length left ≤ length queue
    pub sends : Shortens queue left
    pub again : 0 < length left → Rises (fulls_at old at) (fulls_at new at)

  -- the same where it is placed, and else nothing
  abbrev pub EmptiesPlaced : DataState H → List I → List I → List (DataDesk H I) → List (DataDesk H I) → Type 0
  EmptiesPlaced (Front half to) queue left old new = (left ≡ queue) × (new ≡ old)
  EmptiesPlaced (Placed at) queue left old new = Empties at queue left old new
  EmptiesPlaced (Recall at to) queue left old new = (left ≡ queue) × (new ≡ old)
  EmptiesPlaced (Leaving from to) queue left old new = (left ≡ queue) × (new ≡ old)

-- the item that comes back
abbrev pub no_item : {I : Type 0} → DataNo I → I
no_item (Full item) = item
no_item (NoMemory item) = item

abbrev pub is_full : {I : Type 0} → DataNo I → Bool
is_full (Full _) = true
is_full (NoMemory _) = false

-- an item goes last into a queue, where it has room; or comes back, as one too many exactly where it has none
abbrev pub QueueTakes : {I A : Type 0} → ℕ → I → Result A (DataNo I) → List I → List I → Type 0
QueueTakes room item (Ok _) old new = (new ≡ old ++ item ∷ []) × (length old < room)
QueueTakes room item (Err refusal) old new = (new ≡ old) × (no_item refusal ≡ item)
    × (is_full refusal ≡ true → room ≤ length old) × (is_full refusal ≡ false → length old < room)

module _ {H I : Type 0} where
  -- an item was sent to the slice where its half is placed; or it comes back, since that lane was full or its half
  -- couldn't be sent before it
  abbrev pub Lands : {A : Type 0} → I → DataState H → Result A (DataNo I) → List (DataDesk H I)
      → List (DataDesk H I) → Type 0
  Lands item state (Ok _) old new = (at : ℕ) × (state ≡ Placed at) × Given at (Item item) old new
  Lands item state (Err refusal) old new = (no_item refusal ≡ item) × (is_full refusal ≡ true)
      × (((at : ℕ) × (state ≡ Placed at) × Refused at old new) ⊎ ((half : H) × (to : ℕ) × (state ≡ Front half to)
      × (new ≡ old)))

  -- the order that its slot waits to give is offered first
  pub record Delivers {A : Type 0} (slot : ℕ) (item : I) (answer : Result A (DataNo I)) (was is : DataState H)
      (old new : List (DataDesk H I)) : Type 0 where
    pub mid : List (DataDesk H I)
    pub serves : Serves slot was is old mid
    pub lands : Lands item is answer mid new

-- what is accepted once an item was given
abbrev pub Accepts : {I A : Type 0} → I → Result A (DataNo I) → List I → List I → Type 0
Accepts item (Ok _) old new = new ≡ old ++ item ∷ []
Accepts item (Err refusal) old new = (new ≡ old) × (no_item refusal ≡ item)

-- the same of a place
module _ {H I : Type 0} where
  abbrev pub ServesPlace : ℕ → Option (DataPlace H I) → Option (DataPlace H I) → List (DataDesk H I)
      → List (DataDesk H I) → Type 0
  ServesPlace slot None new_place old new = Unit {0}
  ServesPlace slot (Some before) new_place old new = (after : DataPlace H I) × (new_place ≡ Some after)
      × (after.queue.items ≡ before.queue.items)
      × (after.admitted ≡ before.admitted) × Serves slot before.state after.state old new

  abbrev pub GoesPlace : ℕ → ℕ → Option (DataPlace H I) → Option (DataPlace H I) → List (DataDesk H I)
      → List (DataDesk H I) → Type 0
  GoesPlace slot slice None new_place old new = Unit {0}
  GoesPlace slot slice (Some before) new_place old new = (after : DataPlace H I) × (new_place ≡ Some after)
      × (after.moved ≡ true)
      × (after.queue.items ≡ before.queue.items) × (after.admitted ≡ before.admitted)
      × Goes slot slice before.state after.state old new

  abbrev pub DeliversPlace : {A : Type 0} → ℕ → I → Result A (DataNo I) → Option (DataPlace H I)
      → Option (DataPlace H I) → List (DataDesk H I) → List (DataDesk H I) → Type 0
  DeliversPlace slot item answer None new_place old new = Unit {0}
  DeliversPlace slot item answer (Some before) new_place old new =
      (after : DataPlace H I) × (new_place ≡ Some after) × Delivers slot item answer before.state after.state old new

-- the counts of calls and of refusals after an item was given
abbrev pub asked_after : {I : Type 0} → Result Bool (DataNo I) → ℕ → ℕ
asked_after (Ok _) asked = asked + 1
asked_after (Err refusal) asked = asked

abbrev pub refused_after : {I : Type 0} → Result Bool (DataNo I) → ℕ → ℕ
refused_after (Ok _) refused = refused
refused_after (Err (Full item)) refused = raised refused
refused_after (Err (NoMemory item)) refused = refused

-- what one function does at the place of a slot
module _ {H I : Type 0} (slot_of : H → ℕ) (item_slot : I → ℕ) (handled : H → List I) (slot : ℕ) where
  -- its order was offered once
  pub record Served (place new_place : Option (DataPlace H I)) (old new : List (DataDesk H I)) : Type 0 where
    pub keeps : PlaceKeeps slot_of item_slot handled slot 0 place new_place old new
    pub fits : (room : ℕ) → Fits (length old) room place → Fits (length old) room new_place
    pub accepted : accepted_at new_place ≡ accepted_at place
    pub moved : moved_at new_place ≡ moved_at place
    pub queue : queue_at new_place ≡ queue_at place
    pub again : (slice : ℕ) → waits_at new_place ≡ Some slice → Rises (fulls_at old slice) (fulls_at new slice)
    pub sends : ServesPlace slot place new_place old new

  -- items of its queue were sent, until one was refused
  pub record Drained (place new_place : Option (DataPlace H I)) (old new : List (DataDesk H I)) : Type 0 where
    pub keeps : PlaceKeeps slot_of item_slot handled slot 0 place new_place old new
    pub fits : (room : ℕ) → Fits (length old) room place → Fits (length old) room new_place
    pub accepted : accepted_at new_place ≡ accepted_at place
    pub moved : moved_at new_place ≡ moved_at place
    pub waits : waits_at new_place ≡ waits_at place
    pub state : state_at new_place ≡ state_at place
    pub queue : Shortens (queue_at place) (queue_at new_place)
    pub again : (slice : ℕ) → queues_for new_place ≡ Some slice → 0 < length (queue_at new_place)
        → Rises (fulls_at old slice) (fulls_at new slice)

  -- it moved to a slice
  pub record Moved (slice : ℕ) (place new_place : Option (DataPlace H I)) (old new : List (DataDesk H I)) : Type 0
    where
      pub keeps : PlaceKeeps slot_of item_slot handled slot 2 place new_place old new
      pub fits : (room : ℕ) → Fits (length old) room place → Fits (length old) room new_place
      pub accepted : accepted_at new_place ≡ accepted_at place
      pub moves : GoesPlace slot slice place new_place old new

  -- an item was given to it; accepted, the answer says whether it is parked
  pub record Gave (room : ℕ) (item : I) (answer : Result Bool (DataNo I))
      (place new_place : Option (DataPlace H I)) (old new : List (DataDesk H I)) : Type 0 where
    pub keeps : PlaceKeeps slot_of item_slot handled slot 0 place new_place old new
    pub fits : Fits (length old) room place → Fits (length old) room new_place
    pub accepted : Accepts item answer (accepted_at place) (accepted_at new_place)
    pub told : IfOk answer (λ is_parked. is_parked ≡ parks_at place)
    pub moved : moved_at new_place ≡ moved_at place
    pub parked : parks_at place ≡ true → (new ≡ old) × QueueTakes room item answer (queue_at place)
        (queue_at new_place)
    pub stays : parks_at place ≡ true → state_at new_place ≡ state_at place
    pub placed : parks_at place ≡ false → (queue_at new_place ≡ queue_at place)
        × DeliversPlace slot item answer place new_place old new

-- the place of a slot is a new one, and no other changed
abbrev pub AtSlot : {H I : Type 0} → (Option (DataPlace H I) → Option (DataPlace H I) → List (DataDesk H I)
    → List (DataDesk H I) → Type 0)
    → ℕ → List (Option (DataPlace H I)) → List (Option (DataPlace H I)) → List (DataDesk H I)
    → List (DataDesk H I) → Type 0
AtSlot {H} {I} Step slot places new_places old new =
    (place : Option (DataPlace H I)) × (slot < length places) × (new_places ≡ slice_set places slot place)
    × Step (place_at places slot) place old new

-- what a state becomes as a half comes home from a slice, which is handed back where it isn't expected from there
abbrev pub Homes : {H : Type 0} → H → ℕ → DataState H → DataState H → Option H → Type 0
Homes half slice old new (Some back) = (back ≡ half) × (new ≡ old) × ((to : ℕ) → old ≡ Leaving slice to → ⊥)
Homes half slice old new None = (to : ℕ) × (old ≡ Leaving slice to) × (new ≡ Front half to)

module _ {H I : Type 0} where
  -- the same of a place
  abbrev pub Welcomes : H → ℕ → Option (DataPlace H I) → Option (DataPlace H I) → Option H → Type 0
  Welcomes half slice place new_place (Some back) = (back ≡ half) × (new_place ≡ place)
      × (leaves (state_at place) ≡ Some slice → ⊥)
  Welcomes half slice place new_place None =
      (before : DataPlace H I) × (after : DataPlace H I) × (to : ℕ) × (place ≡ Some before) × (new_place ≡ Some after)
      × (after.queue.items ≡ before.queue.items) × (accepted_by after ≡ accepted_by before)
      × (after.admitted ≡ before.admitted) × (after.moved ≡ before.moved)
      × (before.state ≡ Leaving slice to) × (after.state ≡ Front half to)

  -- the same at the place of a slot, unless a half of it is kept aside
  abbrev pub WelcomesAt : (H → ℕ) → H → ℕ → ℕ → List (UnexpectedHalf H) → List (Option (DataPlace H I))
      → List (Option (DataPlace H I)) → Option H → Type 0
  WelcomesAt slot_of half slice slot aside places new (Some back) = (back ≡ half) × (new ≡ places)
      × ((leaves (state_at (place_at places slot)) ≡ Some slice → ⊥) ⊎ (is_lost slot_of slot aside ≡ true))
  WelcomesAt slot_of half slice slot aside places new None =
      (place : Option (DataPlace H I)) × (slot < length places) × (is_lost slot_of slot aside ≡ false)
      × (new ≡ slice_set places slot place)
      × Welcomes half slice (place_at places slot) place None
