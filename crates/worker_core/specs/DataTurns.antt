-- What a turn of a worker may do, and what its answers tell.
use Rattle.std.specs.Prelude.{◌≡◌, ℕ, ◌+◌, ◌-◌, ◌<◌, ◌⊎◌, Bool, false, nat_lt}
use Rattle.std.specs.Prelude.{if◌then◌else◌, List, [], ◌∷◌, ◌++◌, length, map, slice_index_or, count_by}
use Rattle.std.specs.Prelude.{Option, Some, None}
use Rattle.std.specs.Option.{option_to_list}
use Rattle.lane_core.specs.Ends.{raised}
use Rattle.worker_core.specs.declared.data_order.DataOrder.{DataOrder}
use Rattle.worker_core.specs.declared.data_order.DataOrder.TheVariants.{Item}
use Rattle.worker_core.specs.DataOrders.{is_marker, is_item}
use Rattle.worker_core.specs.DataCounts.{count_at}
use Rattle.worker_core.specs.Counts.{Rises}

-- what a worker has: the orders that it took and the halves that it sent home; those that it holds, in the order in
-- which they came; the half that waits to go home, and the kept item; where its next turn begins; and how often its
-- lane home was full and its lane of orders empty
pub record View (H I : Type 0) : Type 0 where
  pub took : List (DataOrder H I)
  pub gone : List H
  pub held : List H
  pub waiting : Option H
  pub kept : Option I
  pub cursor : ℕ
  pub fulls : ℕ
  pub empties : ℕ

-- a cursor in a list of this length: past its end it is at its front
abbrev pub wrapped : ℕ → ℕ → ℕ
wrapped cursor len = if nat_lt cursor len then cursor else 0

-- where a cursor stands once the half at an index left, and so many are held
abbrev pub cursor_without : ℕ → ℕ → ℕ → ℕ
cursor_without cursor at len = wrapped (if nat_lt at cursor then cursor - 1 else cursor) len

module _ {H I : Type 0} where
  -- the half that waited went home
  abbrev pub WentHome : View H I → View H I → Type 0
  WentHome old new = (half : H) × (old.waiting ≡ Some half) × (new.gone ≡ old.gone ++ half ∷ [])

  -- an Arrive or a Leave was taken
  abbrev pub TookMarker : View H I → View H I → Type 0
  TookMarker old new = count_by is_marker old.took < count_by is_marker new.took

  -- an item was handled: more are taken that aren't kept
  abbrev pub HandledItem : View H I → View H I → Type 0
  HandledItem old new = count_by is_item old.took + length (option_to_list new.kept)
      < count_by is_item new.took + length (option_to_list old.kept)

  -- a half that was held learnt something
  abbrev pub Learnt : (H → ℕ) → View H I → View H I → Type 0
  Learnt learns old new = (k : ℕ) × (k < length old.held)
      × Rises (count_at learns old.held k) (count_at learns new.held k)

  -- why a turn worked
  abbrev pub HasWorked : (H → ℕ) → View H I → View H I → Type 0
  HasWorked learns old new = WentHome old new ⊎ TookMarker old new ⊎ HandledItem old new ⊎ Learnt learns old new

  -- an item was taken and is kept, or nothing was taken
  abbrev pub TookItem : View H I → View H I → Type 0
  TookItem old new = ((new.took ≡ old.took) × (new.kept ≡ old.kept))
      ⊎ ((x : I) × (old.kept ≡ None) × (new.took ≡ old.took ++ Item x ∷ []) × (new.kept ≡ Some x))

-- no half came, went, learnt or handled anything, and an item at most was taken, which is kept
pub record Rested {H I N : Type 0} (name : H → N) (handled : H → List I) (learns : H → ℕ)
    (old new : View H I) : Type 0 where
  pub gone : new.gone ≡ old.gone
  pub waiting : new.waiting ≡ old.waiting
  pub names : map name new.held ≡ map name old.held
  pub lists : map handled new.held ≡ map handled old.held
  pub counted : map learns new.held ≡ map learns old.held
  pub taken : TookItem old new

module _ {H I : Type 0} (asks : H → ℕ) where
  -- the half at an index was asked to learn
  abbrev pub Asked : ℕ → View H I → View H I → Type 0
  Asked k old new = Rises (count_at asks old.held k) (count_at asks new.held k)

  -- the half at the cursor was asked, if any is held, and the cursor went on by one
  abbrev pub CursorAsked : View H I → View H I → Type 0
  CursorAsked old new = 0 < length old.held → Asked old.cursor old new
      × (new.cursor ≡ wrapped (old.cursor + 1) (length old.held))

  -- the half of the kept item doesn't take it, though it was asked to learn
  pub record KeptWaits (slot : H → ℕ) (item_slot : I → ℕ) (takes : H → I → Bool) (old new : View H I) : Type 0 where
    pub item : I
    pub at : ℕ
    pub is_kept : new.kept ≡ Some item
    pub within : at < length new.held
    pub own : (none : H) → slot (slice_index_or new.held at none) ≡ item_slot item
    pub refused : (none : H) → takes (slice_index_or new.held at none) item ≡ false
    pub asked : Asked at old new

  -- why a turn was idle: the lane home was full; or the lane of orders was empty, or the kept item waits, and then the
  -- half at the cursor was asked too
  abbrev pub HasIdled : (H → ℕ) → (I → ℕ) → (H → I → Bool) → View H I → View H I → Type 0
  HasIdled slot item_slot takes old new =
      ((half : H) × (old.waiting ≡ Some half) × (new.fulls ≡ raised old.fulls))
      ⊎ ((new.empties ≡ raised old.empties) × CursorAsked old new)
      ⊎ (KeptWaits slot item_slot takes old new × CursorAsked old new)
