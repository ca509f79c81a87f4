-- The facts that a side keeps, and what a clause says of it.
use Rattle.std.specs.Prelude.{◌≡◌, ℕ, ◌+◌, ◌*◌, ◌^◌, ◌≤◌, List, length}
use Rattle.std.specs.Prelude.{slice_index_or, count_by, Option, Some, None}
use Rattle.std.specs.List.{sum_by, All}
use Rattle.worker_core.specs.Desks.{Desk}
use Rattle.worker_core.specs.Names.{weight}
use Rattle.migration.specs.declared.place.ControlPlace.{ControlPlace}
use Rattle.migration.specs.Desks.{sent_weight, home_weight}
use Rattle.worker_core.specs.Counts.{Rises}
use Rattle.worker_core.specs.Desks.{order_count, fulls_at}
use Rattle.migration.specs.Places.{place_at, names_of, front_at, weight_at, wait_weight, pending_at, is_admitted}
use Rattle.migration.specs.Places.{waits_at}
use Rattle.migration.specs.Places.{PlaceFits, IsOwnAt}

-- each name that was admitted or came home is at the front, is kept aside there, or was sent to a slice, as often
abbrev pub Balanced : {H N : Type 0} → (H → N) → List (Option (ControlPlace H)) → List H → List (Desk H) → Type 0
Balanced {H} {N} name places aside desks =
    (h : N → ℕ) → sum_by (front_at name h) places + weight name h aside + sum_by (sent_weight name h) desks
    ≡ sum_by (weight_at h) (names_of name places) + sum_by (home_weight name h) desks

-- the slot of the name at a place, and the place itself where there is none
abbrev pub slot_at : {N : Type 0} → (N → ℕ) → ℕ → Option N → ℕ
slot_at slot_of slot None = slot
slot_at slot_of slot (Some name) = slot_of name

-- each admitted half stands at its slot
abbrev pub BySlot : {N : Type 0} → (N → ℕ) → List (Option N) → Type 0
BySlot slot_of names = (slot : ℕ) → slot_at slot_of slot (slice_index_or names slot None) ≡ slot

-- what a side keeps: each name in one place, each at its slot, a half at the front at its own, the slots with an order
-- to give in one of two lists, and few enough orders
pub record IsSide {H N : Type 0} (name : H → N) (slot_of : N
    → ℕ) (places : List (Option (ControlPlace H))) (aside : List H) (desks : List (Desk H))
    (waiting serving : List ℕ) (admitted asked : ℕ) : Type 0 where
  pub balanced : Balanced name places aside desks
  pub slots : BySlot slot_of (names_of name places)
  pub fronts : (slot : ℕ) → IsOwnAt name slot_of slot (place_at places slot)
  pub queued : (w : ℕ → ℕ) → sum_by (wait_weight name slot_of w) places ≡ sum_by w waiting + sum_by w serving
  pub fits : All (PlaceFits (length desks) asked) places
  pub few : sum_by order_count desks + sum_by pending_at places ≤ 2 * asked
  pub asked_few : asked ≤ 2 ^ 48
  pub counted : admitted ≡ count_by is_admitted places
  pub aside_few : length aside ≤ admitted

-- each slot that still waits for a slice met a full lane of orders there
abbrev pub AllMetFull : {H : Type 0} → List (Option (ControlPlace H)) → List (Desk H) → List (Desk H) → Type 0
AllMetFull places old new =
    (slot slice : ℕ) → waits_at (place_at places slot) ≡ Some slice → Rises (fulls_at old slice) (fulls_at new slice)
