-- What a side knows of each slot. Places lie by slot.
use Rattle.std.specs.Prelude.{◌≡◌, ℕ, ◌+◌, ◌^◌, ◌≤◌, Bool, true, false, cond, List, map, slice_index_or}
use Rattle.std.specs.Prelude.{Option, Some, None}
use Rattle.migration.specs.declared.place.ControlPlace.{ControlPlace}
use Rattle.migration.specs.declared.place.ControlState.{ControlState}
use Rattle.migration.specs.declared.place.ControlState.TheVariants.{Front, Placed, Recall, Leaving}

module _ {H : Type 0} where
  abbrev pub place_at : List (Option (ControlPlace H)) → ℕ → Option (ControlPlace H)
  place_at places slot = slice_index_or places slot None

  -- how many orders a state has still to give before its half rests at a slice
  abbrev pub pending : ControlState H → ℕ
  pending (Front _ _) = 1
  pending (Placed _) = 0
  pending (Recall _ _ _) = 2
  pending (Leaving _ _) = 1

  abbrev pub pending_at : Option (ControlPlace H) → ℕ
  pending_at None = 0
  pending_at (Some place) = pending place.state

  -- the half was sent to a slice, and nothing else is asked of it
  abbrev pub is_placed : ControlState H → Bool
  is_placed (Front _ _) = false
  is_placed (Placed _) = true
  is_placed (Recall _ _ _) = false
  is_placed (Leaving _ _) = false

  abbrev pub is_placed_at : Option (ControlPlace H) → Bool
  is_placed_at None = false
  is_placed_at (Some place) = is_placed place.state

  -- the slice that the half was sent to and isn't known to have left
  abbrev pub sent_to : ControlState H → Option ℕ
  sent_to (Front _ _) = None
  sent_to (Placed at) = Some at
  sent_to (Recall at _ _) = Some at
  sent_to (Leaving from _) = Some from

  abbrev pub slice_at : Option (ControlPlace H) → Option ℕ
  slice_at None = None
  slice_at (Some place) = sent_to place.state

  -- the slice whose lane of orders the next order waits for
  abbrev pub waits_for : ControlState H → Option ℕ
  waits_for (Front _ to) = Some to
  waits_for (Placed _) = None
  waits_for (Recall at _ _) = Some at
  waits_for (Leaving _ _) = None

  abbrev pub waits_at : Option (ControlPlace H) → Option ℕ
  waits_at None = None
  waits_at (Some place) = waits_for place.state

  -- whether it has an order to give
  abbrev pub is_waiting : ControlState H → Bool
  is_waiting (Front _ _) = true
  is_waiting (Placed _) = false
  is_waiting (Recall _ _ _) = true
  is_waiting (Leaving _ _) = false

  -- whether its half was told to leave
  abbrev pub is_leaving : ControlState H → Bool
  is_leaving (Front _ _) = false
  is_leaving (Placed _) = false
  is_leaving (Recall _ _ _) = false
  is_leaving (Leaving _ _) = true

  abbrev pub is_waiting_at : Option (ControlPlace H) → Bool
  is_waiting_at None = false
  is_waiting_at (Some place) = is_waiting place.state

  -- one more than the slice where the half is, was or is told to leave, and 0 where there is none
  abbrev pub at_end : ControlState H → ℕ
  at_end (Front _ _) = 0
  at_end (Placed at) = at + 1
  at_end (Recall at _ _) = at + 1
  at_end (Leaving from _) = from + 1

  -- one more than the slice that it is bound for
  abbrev pub to_end : ControlState H → ℕ
  to_end (Front _ to) = to + 1
  to_end (Placed _) = 0
  to_end (Recall _ _ to) = to + 1
  to_end (Leaving _ to) = to + 1

  -- the slices of a state are below this number
  abbrev pub slices_fit : ℕ → ControlState H → Type 0
  slices_fit slices state = (at_end state ≤ slices) × (to_end state ≤ slices)

  abbrev pub at_end_at : Option (ControlPlace H) → ℕ
  at_end_at None = 0
  at_end_at (Some place) = at_end place.state

  abbrev pub to_end_at : Option (ControlPlace H) → ℕ
  to_end_at None = 0
  to_end_at (Some place) = to_end place.state

  -- how often the slot moved
  abbrev pub hop_at : Option (ControlPlace H) → ℕ
  hop_at None = 0
  hop_at (Some place) = place.hop

  -- the slices of a place are below this number, and its slot moved less than so often
  abbrev pub PlaceFits : ℕ → ℕ → Option (ControlPlace H) → Type 0
  PlaceFits slices asked place = (at_end_at place ≤ slices) × (to_end_at place ≤ slices)
      × (hop_at place ≤ 2 ^ 60 + asked)

  abbrev pub is_admitted : Option (ControlPlace H) → Bool
  is_admitted None = false
  is_admitted (Some place) = true

  abbrev pub hops_of : List (Option (ControlPlace H)) → List ℕ
  hops_of places = map hop_at places

module _ {H N : Type 0} (name : H → N) where
  -- the name of the half that was admitted
  abbrev pub name_at : Option (ControlPlace H) → Option N
  name_at None = None
  name_at (Some place) = Some (name place.admitted.value)

  -- the names of the admitted halves, by slot
  abbrev pub names_of : List (Option (ControlPlace H)) → List (Option N)
  names_of places = map name_at places

  abbrev pub name_of : List (Option (ControlPlace H)) → ℕ → Option N
  name_of places slot = slice_index_or (names_of places) slot None

  -- what the half at the front weighs, by its name, and 0 where it is elsewhere
  abbrev pub front_weight : (N → ℕ) → ControlState H → ℕ
  front_weight h (Front half _) = h (name half)
  front_weight h (Placed _) = 0
  front_weight h (Recall _ _ _) = 0
  front_weight h (Leaving _ _) = 0

  abbrev pub front_at : (N → ℕ) → Option (ControlPlace H) → ℕ
  front_at h None = 0
  front_at h (Some place) = front_weight h place.state

-- what a name weighs, and 0 where there is none
abbrev pub weight_at : {N : Type 0} → (N → ℕ) → Option N → ℕ
weight_at h None = 0
weight_at h (Some name) = h name

module _ {H N : Type 0} (name : H → N) (slot_of : N → ℕ) where
  -- what the slot of a place weighs that has an order to give
  abbrev pub wait_weight : (ℕ → ℕ) → Option (ControlPlace H) → ℕ
  wait_weight w None = 0
  wait_weight w (Some place) = cond (is_waiting place.state) (w (slot_of (name place.admitted.value))) 0

  -- the slot of a half at the front, and this slot where none is there
  abbrev pub front_slot : ℕ → ControlState H → ℕ
  front_slot slot (Front half _) = slot_of (name half)
  front_slot slot (Placed _) = slot
  front_slot slot (Recall _ _ _) = slot
  front_slot slot (Leaving _ _) = slot

  abbrev pub front_slot_at : ℕ → Option (ControlPlace H) → ℕ
  front_slot_at slot None = slot
  front_slot_at slot (Some place) = front_slot slot place.state

  -- a half at the front is of this slot
  abbrev pub IsOwn : ℕ → ControlState H → Type 0
  IsOwn slot state = front_slot slot state ≡ slot

  abbrev pub IsOwnAt : ℕ → Option (ControlPlace H) → Type 0
  IsOwnAt slot place = front_slot_at slot place ≡ slot
