-- Where halves and items are that are still to be found, and which are found.
use Rattle.std.specs.Prelude.{◌≡◌, ℕ, ◌+◌, ◌<◌, ◌≤◌, ◌==◌, nat_lt, if◌then◌else◌, List, []}
use Rattle.std.specs.Prelude.{◌∷◌, ◌++◌, map, reverse, length, slice_index_or, Option, Some, None, Vec}
use Rattle.std.specs.List.{sum_by, All}
use Rattle.std.specs.Option.{option_to_list}
use Rattle.worker_core.specs.declared.home_lane.HomeLane.{HomeLane}
use Rattle.worker_core.specs.Opened.{IsRest}
use Rattle.worker_core.specs.declared.data_half.DataTraveller.{Ghosts}
use Rattle.worker_core.specs.declared.data_order.DataOrder.{DataOrder}
use Rattle.worker_core.specs.DataDesks.{DataDesk}
use Rattle.worker_core.specs.declared.data_worker.DataEnd.{DataEnd}
use Rattle.worker_core.specs.DataOrders.{halves_in, now_of, gone_of}
use Rattle.worker_core.specs.DataPicks.{lists_of}
use Rattle.worker_core.specs.DataWorkers.{end_lanes}
use Rattle.worker_core.specs.Workers.{desk_lanes}
use Rattle.migration.specs.declared.data_place.DataPlace.{DataPlace}
use Rattle.migration.specs.declared.data_place.DataState.{DataState}
use Rattle.migration.specs.declared.data_place.DataState.TheVariants.{Front, Placed, Recall, Leaving}
use Rattle.migration.specs.declared.data_place.UnexpectedHalf.{UnexpectedHalf}
use Rattle.migration.specs.DataDesks.{sent_weight, home_weight}
use Rattle.worker_core.specs.Desks.{sent_at, home_at}
use Rattle.migration.specs.DataPlaces.{place_at, queue_at, accepted_by, accepted_at, front_at, names_of}
use Rattle.migration.specs.DataSides.{weight_at, PlaceIs, asides_of}
use Rattle.migration.specs.DataStays.{Stay, Where, AtFront, Here, Away, reaches}
use Rattle.migration.specs.DataStays.{backs, stay_items, Chain, came_of, since_of}
use Rattle.migration.specs.DataStays.{now_at, away_at}
use Rattle.gather_home.specs.declared.data_hand.Hand.{Hand}
use Rattle.gather_home.specs.declared.data_home.Home.{Home}
use Rattle.gather_home.specs.DataLefts.{items_in, kept_in, lefts_at}

-- the ends of workers have the lanes of these desks, one by one
abbrev pub AreEnds : {H N I : Type 0} {g : Ghosts H N I} → List (DataDesk H I) → List (DataEnd H N I g) → Type 0
AreEnds {H} {N} {I} {g} desks ends = map (end_lanes {g = g}) ends ≡ map desk_lanes desks

-- numbers of the halves that were kept aside as they came from a slice from k on
abbrev pub aside_sum : {H : Type 0} → ℕ → (H → ℕ) → List (UnexpectedHalf H) → ℕ
aside_sum k f aside = sum_by (λ kept. if nat_lt kept.slice k then 0 else f kept.half) aside

module _ {H I : Type 0} where
  -- the orders that no worker took, in order
  abbrev pub orders_left : Hand H I → List (DataOrder H I)
  orders_left hand = reverse hand.left.items

  -- what numbers of the halves add up to that are found or in hand
  abbrev pub hand_sum : (H → ℕ) → Hand H I → ℕ
  hand_sum f hand = sum_by f hand.found.items + sum_by f hand.held.items + sum_by f (option_to_list hand.waiting)
      + sum_by f (halves_in (orders_left hand))

  -- and with those at the front and those that a lane home has
  abbrev pub halves_sum : (H → ℕ) → List (Option (DataPlace H I)) → Hand H I → List H → ℕ
  halves_sum f places hand out = sum_by (front_at f) places + hand_sum f hand + sum_by f out

  -- the items of the slot s that are found, in hand or in its queue, in order
  abbrev pub rest_at : (I → ℕ) → ℕ → List (Option (DataPlace H I)) → Hand H I → List I
  rest_at item_slot s places hand =
      ((lefts_at hand.lefts.items s ++ kept_in item_slot s hand.item) ++ items_in item_slot s (orders_left hand))
      ++ queue_at (place_at places s)

module _ {H I : Type 0} (slot : H → ℕ) (handled : H → List I) (s : ℕ) where
  -- a number of what a half has handled, where it is of the slot s
  abbrev pub of_slot : (List I → ℕ) → H → ℕ
  of_slot h half = if slot half == s then h (handled half) else 0

  -- the same of the halves that are home, each with the items that are left of it
  abbrev pub homes_sum : (List I → ℕ) → List (Home H I) → ℕ
  homes_sum h homes = sum_by (λ home. if slot home.half == s then h (handled home.half ++ home.left.items) else 0) homes

module _ {H I : Type 0} (handled : H → List I) where
  -- what the half of a state has handled, if it is at the front
  abbrev pub front_lists : DataState H → List (List I)
  front_lists (Front half to) = handled half ∷ []
  front_lists (Placed at) = []
  front_lists (Recall at to) = []
  front_lists (Leaving from to) = []

  abbrev pub front_lists_at : Option (DataPlace H I) → List (List I)
  front_lists_at None = []
  front_lists_at (Some place) = front_lists place.state

-- what a half has handled once it did all that it was sent, if it is or was at a slice from k on
abbrev pub met_from : {I : Type 0} → ℕ → Where I → List (List I)
met_from k (AtFront came) = []
met_from k (Here at came items) = if nat_lt at k then [] else (came ++ items) ∷ []
met_from k (Away at came items) = if nat_lt at k then [] else (came ++ items) ∷ []

-- what the half of a slot has handled once it did all that it was sent, if it is at the front, or is or was at a slice
-- from k on
abbrev pub met_lists : {H I : Type 0} → (H → List I) → ℕ → Option (DataPlace H I) → Where I → List (List I)
met_lists handled k place half = front_lists_at handled place ++ met_from k half

-- what is known of a slot while the lanes of some first desks are open: of these desks what the side knew; at each
-- other one each stay came to what was sent for it; and the half, once it is met, comes with the items that are left to
-- all that was sent for it and then its queue
pub record SlotLeft {H I : Type 0} (slot : H → ℕ) (item_slot : I → ℕ) (handled : H → List I) (s : ℕ)
    (admitted places : List (Option (DataPlace H I))) (aside : List (UnexpectedHalf H)) (hand : Hand H I) (out : List H)
    (desks : List (DataDesk H I)) (homes : List (Home H I)) : Type 0 where
  pub stays : List (Stay I)
  pub half : Where I
  pub is : PlaceIs slot item_slot handled s (place_at admitted s) half
  pub chain : Chain [] stays (came_of half)
  pub all : accepted_at (place_at admitted s)
      ≡ (stay_items stays ++ since_of half) ++ queue_at (place_at admitted s)
  -- at a desk whose lanes are open, and at one whose lanes are closed
  pub gone : (d : ℕ) → d < length desks
      → gone_of slot item_slot handled s (sent_at desks d) ≡ reaches d stays ++ away_at d half
  pub now : (d : ℕ) → d < length desks → now_of slot item_slot handled s (sent_at desks d) ≡ now_at d half
  pub back : (d : ℕ) → d < length desks
      → lists_of slot handled s (home_at desks d) ≡ backs d stays ++ asides_of slot handled s aside d
  pub closed : (d : ℕ) → length desks ≤ d → backs d stays ≡ reaches d stays
  -- what the halves have handled that are met and not home, and what they come to
  pub lists : List (List I)
  pub met : (h : List I → ℕ) → halves_sum (of_slot slot handled s h) places hand out
      + aside_sum (length desks) (of_slot slot handled s h) aside ≡ sum_by h lists
  pub come : (h : List I → ℕ) → sum_by (λ l. h (l ++ rest_at item_slot s places hand)) lists
      + homes_sum slot handled s h homes
      ≡ sum_by (λ l. h (l ++ queue_at (place_at admitted s)))
      (met_lists handled (length desks) (place_at admitted s) half)
  -- while a lane is open no queue was taken, and no item is left of a half that isn't met
  pub queued : 0 < length desks → queue_at (place_at places s) ≡ queue_at (place_at admitted s)
  pub quiet : 0 < length desks → met_lists handled (length desks) (place_at admitted s) half ≡ []
      → rest_at item_slot s places hand ≡ queue_at (place_at admitted s)

-- what is known of all that is still to be found: each name that was admitted is somewhere, as often; and what is known
-- of each slot
pub record IsLaid {H N I : Type 0} (name : H → N) (slot_at : N → ℕ) (item_slot : I → ℕ) (handled : H → List I)
    (admitted places : List (Option (DataPlace H I))) (aside : List (UnexpectedHalf H)) (hand : Hand H I) (out : List H)
    (desks : List (DataDesk H I)) (homes : List (Home H I)) : Type 0 where
  pub names : (h : N → ℕ) → halves_sum (λ half. h (name half)) places hand out
      + sum_by (λ kept. h (name kept.half)) aside
      + sum_by (λ home. h (name home.half)) homes + sum_by (sent_weight (λ half. h (name half))) desks
      ≡ sum_by (weight_at h) (names_of name admitted) + sum_by (home_weight (λ half. h (name half))) desks
  pub known : (s : ℕ) → ∥ SlotLeft (λ half. slot_at (name half)) item_slot handled s admitted places aside hand out
      desks homes ∥₁

-- so it is, whatever is in the lane home that is open
abbrev pub AllLaid : {H N I : Type 0} → (H → N) → (N → ℕ) → (I → ℕ) → (H → List I)
    → List (Option (DataPlace H I)) → List (Option (DataPlace H I)) → List (UnexpectedHalf H) → Hand H I
    → Option (HomeLane H) → List (DataDesk H I) → List (Home H I) → Type 0
AllLaid {H} {N} {I} name slot_at item_slot handled admitted places aside hand opened desks homes =
    (out : List H) → IsRest opened out
    → IsLaid name slot_at item_slot handled admitted places aside hand out desks homes

-- the items that were accepted for a place, where a half was admitted there
abbrev pub accepted_lists : {H I : Type 0} → Option (DataPlace H I) → List (List I)
accepted_lists None = []
accepted_lists (Some place) = accepted_by place ∷ []

-- each half has the name that was admitted at its slot
abbrev pub AtSlots : {H N I : Type 0} → (H → N) → (N → ℕ) → List (Option (DataPlace H I)) → List (Home H I) → Type 0
AtSlots name slot_at places homes =
    All (λ home. slice_index_or (names_of name places) (slot_at (name home.half)) None ≡ Some (name home.half)) homes

-- what a half handled and then what is left of its items are those that were accepted for its slot, in order
abbrev pub ComeToAccepted : {H N I : Type 0} → (H → N) → (N → ℕ) → (H → List I) → List (Option (DataPlace H I))
    → List (Home H I) → Type 0
ComeToAccepted name slot_at handled places homes =
    All (λ home. handled home.half ++ home.left.items ≡ accepted_at (place_at places (slot_at (name home.half)))) homes

-- all halves are home, and each comes to the items that were accepted for its slot
pub record AreHome {H N I : Type 0} (name : H → N) (slot_at : N → ℕ) (handled : H → List I)
    (admitted : List (Option (DataPlace H I))) (homes : List (Home H I)) : Type 0 where
  pub names : (h : N → ℕ) → sum_by (λ home. h (name home.half)) homes ≡ sum_by (weight_at h) (names_of name admitted)
  pub lists : (s : ℕ) (h : List I → ℕ) → homes_sum (λ half. slot_at (name half)) handled s h homes
      ≡ sum_by h (accepted_lists (place_at admitted s))

-- nothing is in hand any more but what is found
pub record IsEmptied {H I : Type 0} (hand : Hand H I) : Type 0 where
  pub item : hand.item ≡ None
  pub left : hand.left.items ≡ []
  pub held : hand.held.items ≡ []
  pub waiting : hand.waiting ≡ None

-- halves and items went from one hand to another place of it, and none was lost
pub record HandKeeps {H I : Type 0} (item_slot : I → ℕ) (old new : Hand H I) : Type 0 where
  pub halves : (f : H → ℕ) → hand_sum f new ≡ hand_sum f old
  pub items : (s : ℕ)
      → (lefts_at new.lefts.items s ++ kept_in item_slot s new.item) ++ items_in item_slot s (orders_left new)
      ≡ (lefts_at old.lefts.items s ++ kept_in item_slot s old.item) ++ items_in item_slot s (orders_left old)

-- the half that was found last is home, with the items of its slot
pub record ComesHome {H I Z : Type 0} (slot : H → ℕ) (found new_found : List H) (lefts new_lefts : List (Vec I Z))
    (homes new_homes : List (Home H I)) : Type 0 where
  pub home : Home H I
  pub was : found ≡ new_found ++ home.half ∷ []
  pub is : new_homes ≡ homes ++ home ∷ []
  pub own : home.left.items ≡ lefts_at lefts (slot home.half)
  pub emptied : lefts_at new_lefts (slot home.half) ≡ []
  pub others : (s : ℕ) → (s ≡ slot home.half → ⊥) → lefts_at new_lefts s ≡ lefts_at lefts s
