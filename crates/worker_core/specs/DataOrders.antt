-- The orders of a lane, looked at one slot at a time: what its half there has handled, what those that left have
-- handled, and which order may follow.
use Rattle.std.specs.Prelude.{◌≡◌, ℕ, Bool, true, false, ◌==◌, if◌then◌else◌, List, [], ◌∷◌, ◌++◌}
use Rattle.std.specs.Prelude.{Option, Some, None}
use Rattle.std.specs.Option.{option_to_list}
use Rattle.worker_core.specs.declared.data_order.DataOrder.{DataOrder}
use Rattle.worker_core.specs.declared.data_order.DataOrder.TheVariants.{Arrive, Item, Leave}

-- one item more, where there is a half
abbrev pub more : {I : Type 0} → Option (List I) → I → Option (List I)
more None x = None
more (Some l) x = Some (l ++ x ∷ [])

module _ {H I : Type 0} where
  -- the halves that orders bring
  abbrev pub halves_in : List (DataOrder H I) → List H
  halves_in [] = []
  halves_in (Arrive half ∷ orders) = half ∷ halves_in orders
  halves_in (Item _ ∷ orders) = halves_in orders
  halves_in (Leave _ ∷ orders) = halves_in orders

  -- whether an order brings a half or sends one home
  abbrev pub is_marker : DataOrder H I → Bool
  is_marker (Arrive _) = true
  is_marker (Item _) = false
  is_marker (Leave _) = true

  abbrev pub is_item : DataOrder H I → Bool
  is_item (Arrive _) = false
  is_item (Item _) = true
  is_item (Leave _) = false

module _ {H I : Type 0} (slot : H → ℕ) (item_slot : I → ℕ) where
  -- whether the half of the slot s stands there after an order
  abbrev pub stands_after : ℕ → Bool → DataOrder H I → Bool
  stands_after s here (Arrive half) = if slot half == s then true else here
  stands_after s here (Item _) = here
  stands_after s here (Leave t) = if t == s then false else here

  abbrev pub stands_from : ℕ → Bool → List (DataOrder H I) → Bool
  stands_from s here [] = here
  stands_from s here (order ∷ orders) = stands_from s (stands_after s here order) orders

  -- whether the half of the slot s stands there after these orders: the last marker of the slot is an Arrive
  abbrev pub stands : ℕ → List (DataOrder H I) → Bool
  stands s orders = stands_from s false orders

  -- an Arrive comes where the half of its slot doesn't stand, an Item and a Leave where it does
  abbrev pub MayFollow : List (DataOrder H I) → DataOrder H I → Type 0
  MayFollow before (Arrive half) = stands (slot half) before ≡ false
  MayFollow before (Item x) = stands (item_slot x) before ≡ true
  MayFollow before (Leave t) = stands t before ≡ true

module _ {H I : Type 0} (slot : H → ℕ) (item_slot : I → ℕ) (handled : H → List I) where
  -- what the half of the slot s that stands there has handled once each item of an order is, if one stands there
  abbrev pub now_after : ℕ → Option (List I) → DataOrder H I → Option (List I)
  now_after s now (Arrive half) = if slot half == s then Some (handled half) else now
  now_after s now (Item x) = if item_slot x == s then more now x else now
  now_after s now (Leave t) = if t == s then None else now

  -- what the half of the slot s has handled that an order sends home
  abbrev pub gone_after : ℕ → Option (List I) → DataOrder H I → List (List I)
  gone_after s now (Arrive _) = []
  gone_after s now (Item _) = []
  gone_after s now (Leave t) = if t == s then option_to_list now else []

  abbrev pub now_from : ℕ → Option (List I) → List (DataOrder H I) → Option (List I)
  now_from s now [] = now
  now_from s now (order ∷ orders) = now_from s (now_after s now order) orders

  abbrev pub gone_from : ℕ → Option (List I) → List (DataOrder H I) → List (List I)
  gone_from s now [] = []
  gone_from s now (order ∷ orders) = gone_after s now order ++ gone_from s (now_after s now order) orders

  -- what the half of the slot s that stands there has handled, once these orders are done
  abbrev pub now_of : ℕ → List (DataOrder H I) → Option (List I)
  now_of s orders = now_from s None orders

  -- what each half of the slot s had handled that left, in the order of leaving
  abbrev pub gone_of : ℕ → List (DataOrder H I) → List (List I)
  gone_of s orders = gone_from s None orders
