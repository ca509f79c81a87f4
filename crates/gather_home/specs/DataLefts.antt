-- The items of one slot that are left: those that are found, the kept one, and those of orders that were not taken.
use Rattle.std.specs.Prelude.{ℕ, ◌==◌, if◌then◌else◌, List, [], ◌∷◌, map, slice_index_or, Option}
use Rattle.std.specs.Prelude.{Some, None, Vec}
use Rattle.worker_core.specs.declared.data_order.DataOrder.{DataOrder}
use Rattle.worker_core.specs.declared.data_order.DataOrder.TheVariants.{Arrive, Item, Leave}

module _ {H I : Type 0} (item_slot : I → ℕ) (s : ℕ) where
  -- the items of the slot s that orders bring, in order
  abbrev pub items_in : List (DataOrder H I) → List I
  items_in [] = []
  items_in (Arrive half ∷ orders) = items_in orders
  items_in (Item x ∷ orders) = if item_slot x == s then x ∷ items_in orders else items_in orders
  items_in (Leave t ∷ orders) = items_in orders

-- the kept item, if it is of the slot s
abbrev pub kept_in : {I : Type 0} → (I → ℕ) → ℕ → Option I → List I
kept_in item_slot s None = []
kept_in item_slot s (Some x) = if item_slot x == s then x ∷ [] else []

-- the items of the slot s that are found, in lists by slot
abbrev pub lefts_at : {I Z : Type 0} → List (Vec I Z) → ℕ → List I
lefts_at {I} {Z} lefts s = slice_index_or (map (λ (left : Vec I Z). left.items) lefts) s []
