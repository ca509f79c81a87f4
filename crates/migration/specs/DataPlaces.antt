-- What a side knows of each slot. Places lie by slot.
use Rattle.std.specs.Prelude.{◌≡◌, ℕ, ◌+◌, ◌≤◌, Bool, true, false, not, ◌&&◌, ◌||◌, nat_eq, List}
use Rattle.std.specs.Prelude.{[], map, length, slice_index_or, is_some, Option, Some, None}
use Rattle.migration.specs.declared.data_place.DataPlace.{DataPlace}
use Rattle.migration.specs.declared.data_place.DataState.{DataState}
use Rattle.migration.specs.declared.data_place.DataState.TheVariants.{Front, Placed, Recall, Leaving}

module _ {H : Type 0} where
  -- the half was sent to a slice, and nothing else is asked of it
  abbrev pub is_placed : DataState H → Bool
  is_placed (Front _ _) = false
  is_placed (Placed _) = true
  is_placed (Recall _ _) = false
  is_placed (Leaving _ _) = false

  -- the half is at the front, or was sent to a slice
  abbrev pub is_settled : DataState H → Bool
  is_settled (Front _ _) = true
  is_settled (Placed _) = true
  is_settled (Recall _ _) = false
  is_settled (Leaving _ _) = false

  -- the slice that a half was told to leave
  abbrev pub leaves : Option (DataState H) → Option ℕ
  leaves None = None
  leaves (Some (Front _ _)) = None
  leaves (Some (Placed _)) = None
  leaves (Some (Recall _ _)) = None
  leaves (Some (Leaving from _)) = Some from

  -- no half is to come home
  abbrev pub rests : Option (DataState H) → Bool
  rests None = true
  rests (Some state) = is_settled state

  -- how many orders a state has still to give before its half rests at a slice
  abbrev pub pending : DataState H → ℕ
  pending (Front _ _) = 1
  pending (Placed _) = 0
  pending (Recall _ _) = 2
  pending (Leaving _ _) = 1

  -- the slice whose lane the next order waits for
  abbrev pub waits_for : DataState H → Option ℕ
  waits_for (Front _ to) = Some to
  waits_for (Placed _) = None
  waits_for (Recall at _) = Some at
  waits_for (Leaving _ _) = None

  -- the slice whose lane the next item waits for
  abbrev pub placed_at : DataState H → Option ℕ
  placed_at (Front _ _) = None
  placed_at (Placed at) = Some at
  placed_at (Recall _ _) = None
  placed_at (Leaving _ _) = None

  -- one more than the slice where the half is, was or is told to leave, and 0 where there is none
  abbrev pub at_end : DataState H → ℕ
  at_end (Front _ _) = 0
  at_end (Placed at) = at + 1
  at_end (Recall at _) = at + 1
  at_end (Leaving from _) = from + 1

  -- one more than the slice that it is bound for
  abbrev pub to_end : DataState H → ℕ
  to_end (Front _ to) = to + 1
  to_end (Placed _) = 0
  to_end (Recall _ to) = to + 1
  to_end (Leaving _ to) = to + 1

  -- a number of the half at the front, and 0 where it is elsewhere
  abbrev pub front_weight : (H → ℕ) → DataState H → ℕ
  front_weight h (Front half _) = h half
  front_weight h (Placed _) = 0
  front_weight h (Recall _ _) = 0
  front_weight h (Leaving _ _) = 0

module _ {H I : Type 0} where
  abbrev pub place_at : List (Option (DataPlace H I)) → ℕ → Option (DataPlace H I)
  place_at places slot = slice_index_or places slot None

  abbrev pub state_at : Option (DataPlace H I) → Option (DataState H)
  state_at None = None
  state_at (Some place) = Some place.state

  -- the items that were accepted for a place, in order
  abbrev pub accepted_by : DataPlace H I → List I
  accepted_by place = map (λ p. p.0) place.accepted.items

  abbrev pub accepted_at : Option (DataPlace H I) → List I
  accepted_at None = []
  accepted_at (Some place) = accepted_by place

  abbrev pub queue_at : Option (DataPlace H I) → List I
  queue_at None = []
  queue_at (Some place) = place.queue.items

  -- what is accepted for a place goes to its queue: its slot moved, and its half isn't placed or others wait
  abbrev pub parks_at : Option (DataPlace H I) → Bool
  parks_at None = false
  parks_at (Some place) = place.moved && (not (is_placed place.state) || not (nat_eq (length place.queue.items) 0))

  -- the half of a slot isn't placed, or items wait for it
  abbrev pub is_busy : Option (DataPlace H I) → Bool
  is_busy None = false
  is_busy (Some place) = not (is_placed place.state) || not (nat_eq (length place.queue.items) 0)

  -- items wait for a half that is placed
  abbrev pub is_draining : Option (DataPlace H I) → Bool
  is_draining None = false
  is_draining (Some place) = is_placed place.state && not (nat_eq (length place.queue.items) 0)

  -- a slot has something to give: an order, or items for a half that is placed
  abbrev pub is_due : Option (DataPlace H I) → Bool
  is_due None = false
  is_due (Some place) = is_some (waits_for place.state) || is_draining (Some place)

  abbrev pub waits_at : Option (DataPlace H I) → Option ℕ
  waits_at None = None
  waits_at (Some place) = waits_for place.state

  -- the slice for whose lane its items wait
  abbrev pub queues_for : Option (DataPlace H I) → Option ℕ
  queues_for None = None
  queues_for (Some place) = placed_at place.state

  abbrev pub is_admitted : Option (DataPlace H I) → Bool
  is_admitted None = false
  is_admitted (Some place) = true

  abbrev pub pending_at : Option (DataPlace H I) → ℕ
  pending_at None = 0
  pending_at (Some place) = pending place.state + length place.queue.items

  abbrev pub accepted_count : Option (DataPlace H I) → ℕ
  accepted_count place = length (accepted_at place)

  abbrev pub front_at : (H → ℕ) → Option (DataPlace H I) → ℕ
  front_at h None = 0
  front_at h (Some place) = front_weight h place.state

  abbrev pub at_end_at : Option (DataPlace H I) → ℕ
  at_end_at None = 0
  at_end_at (Some place) = at_end place.state

  abbrev pub to_end_at : Option (DataPlace H I) → ℕ
  to_end_at None = 0
  to_end_at (Some place) = to_end place.state

  -- whether the slot moved
  abbrev pub moved_at : Option (DataPlace H I) → Bool
  moved_at None = false
  moved_at (Some place) = place.moved

  abbrev pub is_settled_at : Option (DataPlace H I) → Bool
  is_settled_at None = true
  is_settled_at (Some place) = is_settled place.state

  -- the slices of a place are below a number, its queue has at most so many items, and where its slot didn't move
  -- none waits
  abbrev pub Fits : ℕ → ℕ → Option (DataPlace H I) → Type 0
  Fits slices room place = (at_end_at place ≤ slices) × (to_end_at place ≤ slices) × (length (queue_at place) ≤ room)
      × (moved_at place ≡ false → (length (queue_at place) ≡ 0) × (is_settled_at place ≡ true))

module _ {H N I : Type 0} (name : H → N) where
  -- the name of the half that was admitted
  abbrev pub name_at : Option (DataPlace H I) → Option N
  name_at None = None
  name_at (Some place) = Some (name place.admitted.value)

  -- the names of the admitted halves, by slot
  abbrev pub names_of : List (Option (DataPlace H I)) → List (Option N)
  names_of places = map name_at places
