-- The stays of one slot's half at slices, one after another, and where the half is now.
use Rattle.std.specs.Prelude.{◌≡◌, ℕ, ◌==◌, if◌then◌else◌, List, [], ◌∷◌, ◌++◌, Option, Some, None}
use Rattle.worker_core.specs.declared.data_order.DataOrder.{DataOrder}
use Rattle.worker_core.specs.DataOrders.{now_of, gone_of}
use Rattle.worker_core.specs.DataPicks.{lists_of}

-- a stay that ended: at which slice; which items the half had handled as it came; which were sent for it there; and
-- which it had handled as it came home
pub record Stay (I : Type 0) : Type 0 where
  pub at : ℕ
  pub came : List I
  pub items : List I
  pub back : List I

-- where the half is, what it had handled as it came there, and the items that were sent for it since
pub data Where (I : Type 0) : Type 0 where
  AtFront : List I → Where I
  Here : ℕ → List I → List I → Where I
  Away : ℕ → List I → List I → Where I

module _ {I : Type 0} where
  -- what the half has handled once it did all that it was sent
  abbrev pub reach : Stay I → List I
  reach stay = stay.came ++ stay.items

  -- what each stay at a slice came to, in order
  abbrev pub reaches : ℕ → List (Stay I) → List (List I)
  reaches d [] = []
  reaches d (stay ∷ stays) = if stay.at == d then reach stay ∷ reaches d stays else reaches d stays

  abbrev pub backs : ℕ → List (Stay I) → List (List I)
  backs d [] = []
  backs d (stay ∷ stays) = if stay.at == d then stay.back ∷ backs d stays else backs d stays

  -- all items that were sent in stays that ended
  abbrev pub stay_items : List (Stay I) → List I
  stay_items [] = []
  stay_items (stay ∷ stays) = stay.items ++ stay_items stays

  -- each stay began with what the one before came home with, the first with these items, and the half is now with
  -- these
  abbrev pub Chain : List I → List (Stay I) → List I → Type 0
  Chain first [] last = first ≡ last
  Chain first (stay ∷ stays) last = (stay.came ≡ first) × Chain stay.back stays last

  abbrev pub came_of : Where I → List I
  came_of (AtFront came) = came
  came_of (Here at came items) = came
  came_of (Away at came items) = came

  abbrev pub since_of : Where I → List I
  since_of (AtFront came) = []
  since_of (Here at came items) = items
  since_of (Away at came items) = items

  -- what stands at a slice, and what was sent home from it and isn't home yet
  abbrev pub now_at : ℕ → Where I → Option (List I)
  now_at d (AtFront came) = None
  now_at d (Here at came items) = if at == d then Some (came ++ items) else None
  now_at d (Away at came items) = None

  abbrev pub away_at : ℕ → Where I → List (List I)
  away_at d (AtFront came) = []
  away_at d (Here at came items) = []
  away_at d (Away at came items) = if at == d then (came ++ items) ∷ [] else []

-- all of these are items of the slot s
abbrev pub Owned : {I : Type 0} → (I → ℕ) → ℕ → List I → Type 0
Owned item_slot s [] = Unit {0}
Owned item_slot s (x ∷ xs) = (item_slot x ≡ s) × Owned item_slot s xs

-- what is known of one slot: the orders that were sent to each slice are those of its stays, the halves that came
-- home are those that left, each stay began where the one before ended, and the accepted items are those sent for
-- it, stay by stay, and then its queue
pub record SlotKnows {H I : Type 0} (slot : H → ℕ) (item_slot : I → ℕ) (handled : H → List I) (s : ℕ)
    (orders : ℕ → List (DataOrder H I)) (homes : ℕ → List H) (asides : ℕ → List (List I))
    (stays : List (Stay I)) (half : Where I) (queue accepted : List I) : Type 0 where
  pub gone : (d : ℕ) → gone_of slot item_slot handled s (orders d) ≡ reaches d stays ++ away_at d half
  pub now : (d : ℕ) → now_of slot item_slot handled s (orders d) ≡ now_at d half
  pub back : (d : ℕ) → lists_of slot handled s (homes d) ≡ backs d stays ++ asides d
  pub chain : Chain [] stays (came_of half)
  pub all : accepted ≡ (stay_items stays ++ since_of half) ++ queue
  pub own : Owned item_slot s queue
