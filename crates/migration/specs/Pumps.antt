-- In which order pumping takes halves home and offers the orders that wait.
use Rattle.std.specs.Prelude.{◌≡◌, ℕ, ◌⊎◌, Bool, true, List, [], ◌∷◌, map, Option, None}
use Rattle.std.specs.List.{All, Contains}
use Rattle.std.specs.List.Sorted.{IsStrictlyIncreasing}
use Rattle.lane_core.specs.declared.ends.Sender.{Sender}
use Rattle.worker_core.specs.declared.order.Order.{Order}
use Rattle.worker_core.specs.Desks.{Desk}
use Rattle.migration.specs.declared.place.ControlPlace.{ControlPlace}
use Rattle.migration.specs.Places.{place_at, is_waiting_at}
use Rattle.migration.specs.Steps.{ServedAt, Welcomes}

module _ {H : Type 0} where
  -- the ends of the lanes of orders
  abbrev pub orders_of : List (Desk H) → List (Sender (Order H))
  orders_of desks = map (λ (desk : Desk H). desk.orders) desks

  -- a half came home to a place that waited for it, or the place is as it was
  abbrev pub CameHome : Option (ControlPlace H) → Option (ControlPlace H) → Type 0
  CameHome old new = (new ≡ old) ⊎ ((half : H) × Welcomes half old new None)

  -- halves came home, and no order was offered
  pub record TakesHome (places new_places : List (Option (ControlPlace H))) (old new : List (Desk H)) : Type 0 where
    pub came : (slot : ℕ) → CameHome (place_at places slot) (place_at new_places slot)
    pub orders : orders_of new ≡ orders_of old

  -- where no slot waits to be served now none did before, and each half is where it was
  abbrev pub NoneWaits : List ℕ → List ℕ → List (Option (ControlPlace H)) → List (Option (ControlPlace H)) → Type 0
  NoneWaits waiting new_waiting places new_places = new_waiting ≡ [] → (waiting ≡ []) × (new_places ≡ places)

  -- these are the slots with an order to give, each once and the lowest first
  pub record LinedUp (places : List (Option (ControlPlace H))) (slots : List ℕ) : Type 0 where
    pub rising : IsStrictlyIncreasing slots
    pub waiting : All (λ slot. is_waiting_at (place_at places slot) ≡ true) slots
    pub all : (slot : ℕ) → is_waiting_at (place_at places slot) ≡ true → Contains slots slot

module _ {H N : Type 0} (name : H → N) (hop_of : H → ℕ) where
  -- the orders of these slots are offered, one after another and each once
  abbrev pub ServesEach : List ℕ → List (Option (ControlPlace H)) → List (Option (ControlPlace H))
      → List (Desk H) → List (Desk H) → Type 0
  ServesEach [] places new_places old new = (new_places ≡ places) × (new ≡ old)
  ServesEach (slot ∷ slots) places new_places old new =
      (waits : Bool) × (next_places : List (Option (ControlPlace H))) × (next : List (Desk H))
      × ServedAt name hop_of slot waits places next_places old next
      × ServesEach slots next_places new_places next new

  -- first halves come home, and then the orders that wait are offered by slot
  pub record PumpsBySlot (places new_places : List (Option (ControlPlace H))) (old new : List (Desk H)) : Type 0 where
    pub home_places : List (Option (ControlPlace H))
    pub home_desks : List (Desk H)
    pub slots : List ℕ
    pub home : TakesHome places home_places old home_desks
    pub lined : LinedUp home_places slots
    pub served : ServesEach slots home_places new_places home_desks new
