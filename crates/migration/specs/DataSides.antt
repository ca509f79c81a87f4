-- The facts that a side keeps.
use Rattle.std.specs.Prelude.{◌≡◌, ℕ, ◌+◌, ◌*◌, ◌^◌, ◌<◌, ◌≤◌, ◌==◌}
use Rattle.std.specs.Prelude.{if◌then◌else◌, Bool, List, [], ◌∷◌, length, slice_index_or, count_by, Option, Some}
use Rattle.std.specs.Prelude.{None}
use Rattle.std.specs.List.{sum_by, All, list_any}
use Rattle.worker_core.specs.DataDesks.{DataDesk}
use Rattle.worker_core.specs.Counts.{Rises}
use Rattle.migration.specs.declared.data_place.DataPlace.{DataPlace}
use Rattle.migration.specs.declared.data_place.UnexpectedHalf.{UnexpectedHalf}
use Rattle.migration.specs.DataDesks.{sent_weight}
use Rattle.worker_core.specs.Desks.{sent_at, home_at, order_count}
use Rattle.migration.specs.DataDesks.{home_weight}
use Rattle.worker_core.specs.Desks.{fulls_at}
use Rattle.migration.specs.DataPlaces.{place_at, accepted_at, accepted_count, queue_at}
use Rattle.migration.specs.DataPlaces.{is_admitted, pending_at, front_at}
use Rattle.migration.specs.DataPlaces.{Fits, waits_at, queues_for, names_of}
use Rattle.migration.specs.DataStays.{Stay, Where, AtFront, SlotKnows}
use Rattle.migration.specs.DataKeeps.{StateIs}

-- what a name weighs, and 0 where there is none
abbrev pub weight_at : {N : Type 0} → (N → ℕ) → Option N → ℕ
weight_at h None = 0
weight_at h (Some name) = h name

-- whether a half of a slot was kept aside
abbrev pub is_lost : {H : Type 0} → (H → ℕ) → ℕ → List (UnexpectedHalf H) → Bool
is_lost slot s aside = list_any (λ kept. slot kept.half == s) aside

module _ {H I : Type 0} (slot : H → ℕ) (handled : H → List I) where
  -- what the halves of a slot handled that were kept aside as they came from a slice
  abbrev pub asides_of : ℕ → List (UnexpectedHalf H) → ℕ → List (List I)
  asides_of s [] d = []
  asides_of s (kept ∷ aside) d = if slot kept.half == s then
      (if kept.slice == d then handled kept.half ∷ asides_of s aside d else asides_of s aside d) else asides_of s
      aside d

module _ {H I : Type 0} (slot : H → ℕ) (item_slot : I → ℕ) (handled : H → List I) where
  abbrev pub PlaceIs : ℕ → Option (DataPlace H I) → Where I → Type 0
  PlaceIs s None place = place ≡ AtFront []
  PlaceIs s (Some at) place = StateIs slot handled s at.state place

  -- what is known of a slot, by its place
  pub record Tells (s : ℕ) (place : Option (DataPlace H I)) (desks : List (DataDesk H I))
      (aside : List (UnexpectedHalf H)) : Type 0 where
    pub stays : List (Stay I)
    pub half : Where I
    pub knows : SlotKnows slot item_slot handled s (sent_at desks) (home_at desks) (asides_of slot handled s aside)
        stays half (queue_at place) (accepted_at place)
    pub is : PlaceIs s place half

  -- each slot is known
  abbrev pub AllKnown : List (Option (DataPlace H I)) → List (DataDesk H I) → List (UnexpectedHalf H) → Type 0
  AllKnown places desks aside = (s : ℕ) → ∥ Tells s (place_at places s) desks aside ∥₁

-- each name that was admitted or came home is at the front, is kept aside there, or was sent to a slice, as often
abbrev pub Balanced : {H N I : Type 0} → (H → N) → List (Option (DataPlace H I)) → List (UnexpectedHalf H)
    → List (DataDesk H I) → Type 0
Balanced {H} {N} {I} name places aside desks =
    (h : N → ℕ) → sum_by (front_at (λ half. h (name half))) places + sum_by (λ kept. h (name kept.half)) aside
    + sum_by (sent_weight (λ half. h (name half))) desks
    ≡ sum_by (weight_at h) (names_of name places) + sum_by (home_weight (λ half. h (name half))) desks

-- However halves are weighed, if one that has handled nothing weighs nothing: those that are at the front or kept aside
-- there, or were sent to a slice, weigh as much as those that came home.
abbrev pub Weighed : {H I : Type 0} → (H → List I) → List (Option (DataPlace H I)) → List (UnexpectedHalf H)
    → List (DataDesk H I) → Type 0
Weighed {H} {I} handled places aside desks = (f : H → ℕ) → ((half : H) → handled half ≡ [] → f half ≡ 0)
    → sum_by (front_at f) places + sum_by (λ kept. f kept.half) aside + sum_by (sent_weight f) desks
    ≡ sum_by (home_weight f) desks

-- the slot of the name at a place, and the place itself where there is none
abbrev pub slot_at_place : {N : Type 0} → (N → ℕ) → ℕ → Option N → ℕ
slot_at_place slot_at slot None = slot
slot_at_place slot_at slot (Some name) = slot_at name

-- each admitted half stands at its slot
abbrev pub BySlot : {N : Type 0} → (N → ℕ) → List (Option N) → Type 0
BySlot slot_at names = (slot : ℕ) → slot_at_place slot_at slot (slice_index_or names slot None) ≡ slot

-- what a side keeps: each name in one place, each at its slot, what is known of each slot's stays, and few enough
-- orders
pub record IsDataSide {H N I : Type 0} (name : H → N) (slot_at : N → ℕ) (item_slot : I → ℕ) (handled : H → List I)
    (places : List (Option (DataPlace H I))) (aside : List (UnexpectedHalf H)) (desks : List (DataDesk H I))
    (room admitted asked : ℕ) : Type 0 where
  pub known : AllKnown (λ half. slot_at (name half)) item_slot handled places desks aside
  pub balanced : Balanced name places aside desks
  pub weighed : Weighed handled places aside desks
  pub slots : BySlot slot_at (names_of name places)
  pub fits : All (Fits (length desks) room) places
  pub short : length places ≤ 65533
  pub room_few : room ≤ 256
  pub few : sum_by order_count desks + sum_by pending_at places + sum_by accepted_count places + admitted ≤ 2 * asked
  pub asked_few : asked ≤ 2 ^ 48
  pub counted : admitted ≡ count_by is_admitted places
  pub aside_few : length aside ≤ admitted

-- each slot that still waits for a slice met a full lane there
abbrev pub AllMetFull : {H I : Type 0} → List (Option (DataPlace H I)) → List (DataDesk H I)
    → List (DataDesk H I) → Type 0
AllMetFull places old new = (slot slice : ℕ) → waits_at (place_at places slot) ≡ Some slice
    → Rises (fulls_at old slice) (fulls_at new slice)

-- each placed slot whose queue has items left met a full lane at its slice
abbrev pub QueuesMetFull : {H I : Type 0} → List (Option (DataPlace H I)) → List (DataDesk H I)
    → List (DataDesk H I) → Type 0
QueuesMetFull places old new = (slot slice : ℕ) → queues_for (place_at places slot) ≡ Some slice
    → 0 < length (queue_at (place_at places slot))
    → Rises (fulls_at old slice) (fulls_at new slice)
