-- What each step of a worker's turn does.
use Rattle.std.specs.Prelude.{◌≡◌, ℕ, ◌+◌, ◌<◌, ◌≤◌, ◌⊎◌, Bool, true, false, List, [], ◌∷◌}
use Rattle.std.specs.Prelude.{◌++◌, length, map, slice_index_or, slice_set, count_by, Result, Ok, Option, Some, None}
use Rattle.std.specs.Option.{option_to_list}
use Rattle.lane_core.specs.Ends.{raised}
use Rattle.worker_core.specs.declared.data_order.DataOrder.TheVariants.{Arrive, Item, Leave}
use Rattle.worker_core.specs.declared.data_serving.TriedItem.{TriedItem}
use Rattle.worker_core.specs.declared.data_serving.TriedItem.TheVariants.{Handled, Waits}
use Rattle.worker_core.specs.declared.data_serving.Sent.{Sent}
use Rattle.worker_core.specs.declared.data_serving.Sent.TheVariants.{Absent, Home, Refused}
use Rattle.worker_core.specs.declared.data_serving.Step.{Step}
use Rattle.worker_core.specs.declared.data_serving.Step.TheVariants.{Done, LeftNow, Stopped}
use Rattle.worker_core.specs.declared.data_serving.OrderTaken.{OrderTaken}
use Rattle.worker_core.specs.declared.data_serving.OrderTaken.TheVariants.{Nothing, Arrived, Left, Kept}
use Rattle.worker_core.specs.DataOrders.{is_marker, is_item}
use Rattle.worker_core.specs.DataCounts.{learnt_count, learns_after, count_at}
use Rattle.worker_core.specs.Counts.{Lasts}
use Rattle.worker_core.specs.DataTurns.{View, wrapped, WentHome, TookMarker, HandledItem, Learnt, TookItem, KeptWaits}

-- one half changed, and has its name
pub record ChangedAt {H N : Type 0} (name : H → N) (at : ℕ) (before after : H) (old new : List H) : Type 0 where
  pub within : at < length old
  pub there : before ≡ slice_index_or old at before
  pub changed : new ≡ slice_set old at after
  pub named : name after ≡ name before

module _ {H I : Type 0} (handled : H → List I) (takes : H → I → Bool) (asks learns : H → ℕ) where
  -- a half was asked to learn
  pub record Asks {E : Type 0} (result : Result Bool E) (before after : H) : Type 0 where
    pub lists : handled after ≡ handled before
    pub asked : asks after ≡ raised (asks before)
    pub counted : learns after ≡ learns_after result (learns before)
    pub same : result ≡ Ok false → (x : I) → takes after x ≡ takes before x

  -- what became of an item that was handed to its half: it was handled; or the half doesn't take it though it was
  -- asked, and learnt something or not
  abbrev pub Handed : TriedItem → I → H → H → Type 0
  Handed Handled x before after = (handled after ≡ handled before ++ x ∷ []) × Lasts (learns before) (learns after)
  Handed (Waits learnt) x before after =
      (handled after ≡ handled before) × (asks after ≡ raised (asks before))
      × (learns after ≡ learnt_count learnt (learns before)) × (takes after x ≡ false)

-- nothing but the halves that are held changed, and perhaps the kept item and the cursor
pub record SameAbout {H I : Type 0} (old new : View H I) : Type 0 where
  pub took : new.took ≡ old.took
  pub gone : new.gone ≡ old.gone
  pub waiting : new.waiting ≡ old.waiting
  pub fulls : new.fulls ≡ old.fulls
  pub empties : new.empties ≡ old.empties

-- what handing the kept item makes of doing an order
abbrev pub step_of : TriedItem → Step
step_of Handled = Done
step_of (Waits learnt) = Stopped learnt

-- what is kept after it was handed
abbrev pub kept_after : {I : Type 0} → TriedItem → I → Option I
kept_after Handled x = None
kept_after (Waits learnt) x = Some x

module _ {H I : Type 0} where
  -- the half that waited was offered home
  abbrev pub WasSent : Sent → View H I → View H I → Type 0
  WasSent Absent old new = new ≡ old
  WasSent Home old new = WentHome old new
  WasSent Refused old new = (half : H) × (old.waiting ≡ Some half) × (new.fulls ≡ raised old.fulls)
      × (new.took ≡ old.took) × (new.gone ≡ old.gone) × (new.held ≡ old.held) × (new.waiting ≡ old.waiting)
      × (new.kept ≡ old.kept)

  -- an order was taken, or none was there
  abbrev pub TookOrder : OrderTaken → View H I → View H I → Type 0
  TookOrder Nothing old new = (new.took ≡ old.took) × (new.gone ≡ old.gone) × (new.waiting ≡ old.waiting)
      × (new.held ≡ old.held) × (new.kept ≡ old.kept) × (new.cursor ≡ old.cursor) × (new.empties ≡ raised old.empties)
  TookOrder Arrived old new = (half : H) × (new.took ≡ old.took ++ Arrive half ∷ []) × (new.gone ≡ old.gone)
      × (new.waiting ≡ old.waiting) × (new.kept ≡ old.kept)
  TookOrder Left old new = (slot : ℕ) × (new.took ≡ old.took ++ Leave slot ∷ []) × (new.gone ≡ old.gone)
      × (new.kept ≡ old.kept)
  TookOrder Kept old new = (x : I) × (new.took ≡ old.took ++ Item x ∷ []) × (new.gone ≡ old.gone)
      × (new.waiting ≡ old.waiting)
      × (new.held ≡ old.held) × (new.kept ≡ Some x) × (new.cursor ≡ old.cursor)

-- what went on for a while: markers and handled items don't become fewer, and where no marker came the halves stayed
-- where they were
pub record Along {H I : Type 0} (learns : H → ℕ) (old new : View H I) : Type 0 where
  pub marked : count_by is_marker old.took ≤ count_by is_marker new.took
  pub handles : count_by is_item old.took + length (option_to_list new.kept)
      ≤ count_by is_item new.took + length (option_to_list old.kept)
  pub aligned : count_by is_marker new.took ≡ count_by is_marker old.took
      → (length new.held ≡ length old.held)
      × ((k : ℕ) → Lasts (count_at learns old.held k) (count_at learns new.held k))

module _ {H I N : Type 0} (name : H → N) (slot : H → ℕ) (item_slot : I → ℕ) (handled : H → List I) (takes : H → I
    → Bool) (asks learns : H → ℕ) where
  -- the kept item was handed to its half
  pub record TriedKept (tried : TriedItem) (old new : View H I) : Type 0 where
    pub at : ℕ
    pub before : H
    pub after : H
    pub item : I
    pub was : old.kept ≡ Some item
    pub kept : new.kept ≡ kept_after tried item
    pub changed : ChangedAt name at before after old.held new.held
    pub own : slot before ≡ item_slot item
    pub handed : Handed handled takes asks learns tried item before after
    pub about : SameAbout old new
    pub cursor : new.cursor ≡ old.cursor

  -- the half at the cursor was asked
  pub record NextAsked (learnt : Bool) (old new : View H I) : Type 0 where
    pub before : H
    pub after : H
    pub changed : ChangedAt name old.cursor before after old.held new.held
    pub lists : handled after ≡ handled before
    pub asked : asks after ≡ raised (asks before)
    pub counted : learns after ≡ learnt_count learnt (learns before)
    pub same : learnt ≡ false → (x : I) → takes after x ≡ takes before x
    pub about : SameAbout old new
    pub kept : new.kept ≡ old.kept
    pub cursor : new.cursor ≡ wrapped (old.cursor + 1) (length old.held)

  -- the same, unless none is held
  abbrev pub LearntNext : Bool → View H I → View H I → Type 0
  LearntNext learnt old new = ((old.held ≡ []) × (learnt ≡ false) × (new ≡ old)) ⊎ NextAsked learnt old new

  -- why orders were done
  abbrev pub HasServed : View H I → View H I → Type 0
  HasServed old new = TookMarker old new ⊎ HandledItem old new ⊎ Learnt learns old new

  -- no order was done: the lane was empty, or an item is kept that its half doesn't take
  pub record NotServed (old new : View H I) : Type 0 where
    pub names : map name new.held ≡ map name old.held
    pub lists : map handled new.held ≡ map handled old.held
    pub counted : map learns new.held ≡ map learns old.held
    pub asked : (k : ℕ) → Lasts (count_at asks old.held k) (count_at asks new.held k)
    pub cursor : new.cursor ≡ old.cursor
    pub taken : TookItem old new
    pub why : (new.empties ≡ raised old.empties) ⊎ KeptWaits asks slot item_slot takes old new

  -- what doing one order came to
  abbrev pub Ordered : Step → View H I → View H I → Type 0
  Ordered Done old new = Along learns old new × (new.gone ≡ old.gone) × (new.waiting ≡ old.waiting) × HasServed old new
  Ordered LeftNow old new = Along learns old new × (new.gone ≡ old.gone) × TookMarker old new
  Ordered (Stopped learnt) old new = Along learns old new × (new.gone ≡ old.gone) × (new.waiting ≡ old.waiting)
      × (learnt ≡ true → HasServed old new) × (learnt ≡ false → NotServed old new)
