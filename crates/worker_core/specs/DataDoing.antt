-- A turn of a worker, whole: each of its steps, and what stays.
use Rattle.std.specs.Prelude.{◌≡◌, ℕ, zero, suc, ◌+◌, ◌<◌, ◌⊎◌, Bool, true}
use Rattle.std.specs.Prelude.{false, ◌||◌, if◌then◌else◌, nat_lt, [], ◌∷◌, ◌++◌}
use Rattle.std.specs.Prelude.{length, slice_index_or, Some, None}
use Rattle.std.specs.List.{remove}
use Rattle.lane_core.specs.declared.did.Did.{Did}
use Rattle.lane_core.specs.declared.did.Did.TheVariants as did
use Rattle.lane_core.specs.Ends.{raised}
use Rattle.worker_core.specs.declared.data_half.DataTraveller.{Ghosts}
use Rattle.worker_core.specs.declared.data_order.DataOrder.TheVariants.{Arrive, Item, Leave}
use Rattle.worker_core.specs.declared.data_serving.TriedItem.{TriedItem}
use Rattle.worker_core.specs.declared.data_serving.Sent.{Sent}
use Rattle.worker_core.specs.declared.data_serving.Sent.TheVariants.{Absent, Home, Refused}
use Rattle.worker_core.specs.declared.data_serving.Step.{Step}
use Rattle.worker_core.specs.declared.data_serving.Step.TheVariants.{Done, LeftNow, Stopped}
use Rattle.worker_core.specs.declared.data_serving.Served.{Served}
use Rattle.worker_core.specs.declared.data_serving.Served.TheVariants as served
use Rattle.worker_core.specs.declared.data_serving.OrderTaken.{OrderTaken}
use Rattle.worker_core.specs.declared.data_serving.OrderTaken.TheVariants.{Nothing, Arrived, Left, Kept}
use Rattle.worker_core.specs.DataHanding.{LearnsAs, HandsAs}
use Rattle.worker_core.specs.DataTurns.{View, wrapped, cursor_without}
use Rattle.worker_core.specs.DataSteps.{ChangedAt, SameAbout, step_of, kept_after}

module _ {H I : Type 0} where
  -- none waited to go home; the one that waited went; or the lane home was full, and it waits
  pub record Went (old new : View H I) : Type 0 where
    pub half : H
    pub was : old.waiting ≡ Some half
    pub gone : new.gone ≡ old.gone ++ half ∷ []
    pub waiting : new.waiting ≡ None
    pub took : new.took ≡ old.took
    pub held : new.held ≡ old.held
    pub kept : new.kept ≡ old.kept
    pub cursor : new.cursor ≡ old.cursor

  pub record MetFull (old new : View H I) : Type 0 where
    pub half : H
    pub was : old.waiting ≡ Some half
    pub gone : new.gone ≡ old.gone
    pub waiting : new.waiting ≡ old.waiting
    pub took : new.took ≡ old.took
    pub held : new.held ≡ old.held
    pub kept : new.kept ≡ old.kept
    pub cursor : new.cursor ≡ old.cursor
    pub fulls : new.fulls ≡ raised old.fulls

  abbrev pub SendsAs : Sent → View H I → View H I → Type 0
  SendsAs Absent old new = (old.waiting ≡ None) × (new ≡ old)
  SendsAs Home old new = Went old new
  SendsAs Refused old new = MetFull old new

  -- the lane of orders was empty
  pub record FindsNone (old new : View H I) : Type 0 where
    pub took : new.took ≡ old.took
    pub gone : new.gone ≡ old.gone
    pub held : new.held ≡ old.held
    pub waiting : new.waiting ≡ old.waiting
    pub kept : new.kept ≡ old.kept
    pub cursor : new.cursor ≡ old.cursor
    pub empties : new.empties ≡ raised old.empties

  -- a half came, and stands last
  pub record HoldsLast (old new : View H I) : Type 0 where
    pub half : H
    pub took : new.took ≡ old.took ++ Arrive half ∷ []
    pub held : new.held ≡ old.held ++ half ∷ []
    pub gone : new.gone ≡ old.gone
    pub waiting : new.waiting ≡ old.waiting
    pub kept : new.kept ≡ old.kept
    pub cursor : new.cursor ≡ old.cursor

  -- an item came, and is kept
  pub record KeepsItem (old new : View H I) : Type 0 where
    pub item : I
    pub took : new.took ≡ old.took ++ Item item ∷ []
    pub held : new.held ≡ old.held
    pub gone : new.gone ≡ old.gone
    pub waiting : new.waiting ≡ old.waiting
    pub kept : new.kept ≡ Some item
    pub cursor : new.cursor ≡ old.cursor

-- what a turn answers
abbrev pub did_of : Sent → Bool → Bool → Did
did_of Home worked learnt = did.Worked
did_of Absent worked learnt = if worked || learnt then did.Worked else did.Idle
did_of Refused worked learnt = if worked || learnt then did.Worked else did.Idle

module _ {H N I : Type 0} (g : Ghosts H N I) (place : ℕ) where
  -- a half of a slot left: it waits to go home, and the cursor stays at the half where it stood
  pub record LetsGo (old new : View H I) : Type 0 where
    pub slot : ℕ
    pub at : ℕ
    pub half : H
    pub took : new.took ≡ old.took ++ Leave slot ∷ []
    pub within : at < length old.held
    pub there : half ≡ slice_index_or old.held at half
    pub own : g.slot_at (g.name half) ≡ slot
    pub held : new.held ≡ remove old.held at
    pub gone : new.gone ≡ old.gone
    pub waiting : new.waiting ≡ Some half
    pub kept : new.kept ≡ old.kept
    pub cursor : new.cursor ≡ cursor_without old.cursor at (length new.held)

  abbrev pub TakesAs : OrderTaken → View H I → View H I → Type 0
  TakesAs Nothing old new = FindsNone old new
  TakesAs Arrived old new = HoldsLast old new
  TakesAs Left old new = LetsGo old new
  TakesAs Kept old new = KeepsItem old new

  -- the kept item was handed to its half
  pub record HandsKept (tried : TriedItem) (old new : View H I) : Type 0 where
    pub at : ℕ
    pub before : H
    pub after : H
    pub item : I
    pub was : old.kept ≡ Some item
    pub kept : new.kept ≡ kept_after tried item
    pub changed : ChangedAt g.name at before after old.held new.held
    pub own : g.slot_at (g.name before) ≡ g.item_slot item
    pub hands : HandsAs g.handled g.places g.takes g.asks g.learns g.batches g.empties g.awaits place tried item before
        after
    pub about : SameAbout old new
    pub cursor : new.cursor ≡ old.cursor

  -- one order was done, or none is left to do: an item that is kept comes before the next order
  abbrev pub DoesOne : Step → View H I → View H I → Type 0
  DoesOne step old new =
      ((step ≡ Stopped false) × (old.kept ≡ None) × FindsNone old new)
      ⊎ ((step ≡ Done) × (old.kept ≡ None) × HoldsLast old new)
      ⊎ ((step ≡ LeftNow) × (old.kept ≡ None) × LetsGo old new)
      ⊎ ((mid : View H I) × (tried : TriedItem) × ((mid ≡ old) ⊎ ((old.kept ≡ None) × KeepsItem old mid))
      × (step ≡ step_of tried) × HandsKept tried mid new)

  -- so many orders were done, one after another
  abbrev pub DoesMany : ℕ → View H I → View H I → Type 0
  DoesMany zero first new = new ≡ first
  DoesMany (suc n) first new = (mid : View H I) × DoesMany n first mid × DoesOne Done mid new

  -- eight orders were done; or fewer, since a half left, or no order came, or an item waits
  abbrev pub DoesOrders : Served → View H I → View H I → Type 0
  DoesOrders served.Left first new =
      (n : ℕ) × (mid : View H I) × (n < 8) × DoesMany n first mid × DoesOne LeftNow mid new
  DoesOrders (served.Stopped worked) first new =
      ((worked ≡ true) × DoesMany 8 first new)
      ⊎ ((n : ℕ) × (mid : View H I) × (learnt : Bool) × (n < 8) × DoesMany n first mid
      × DoesOne (Stopped learnt) mid new × (worked ≡ (nat_lt 0 n || learnt)))

  -- the half at the cursor was asked to learn, and the cursor went on by one
  pub record AsksNext (learnt : Bool) (old new : View H I) : Type 0 where
    pub before : H
    pub after : H
    pub changed : ChangedAt g.name old.cursor before after old.held new.held
    pub learns_it : LearnsAs g.handled g.places g.takes g.asks g.learns g.batches g.empties g.awaits 16 learnt before
        after
    pub about : SameAbout old new
    pub kept : new.kept ≡ old.kept
    pub cursor : new.cursor ≡ wrapped (old.cursor + 1) (length old.held)

  abbrev pub LearnsNext : Bool → View H I → View H I → Type 0
  LearnsNext learnt old new = ((old.held ≡ []) × (learnt ≡ false) × (new ≡ old)) ⊎ AsksNext learnt old new

  -- orders are done; where no half left, the half at the cursor learns then
  abbrev pub Serves : Sent → Did → View H I → View H I → Type 0
  Serves sent answer mid new =
      ((answer ≡ did.Worked) × DoesOrders served.Left mid new)
      ⊎ ((worked : Bool) × (learnt : Bool) × (late : View H I) × DoesOrders (served.Stopped worked) mid late
      × LearnsNext learnt late new × (answer ≡ did_of sent worked learnt))

  -- what follows the offer of the half that waits: nothing, where it was refused
  abbrev pub GoesOn : Sent → Did → View H I → View H I → Type 0
  GoesOn Absent answer mid new = Serves Absent answer mid new
  GoesOn Home answer mid new = Serves Home answer mid new
  GoesOn Refused answer mid new = (answer ≡ did.Idle) × (new ≡ mid)

  -- a turn, and its answer
  abbrev pub TurnsAs : Did → View H I → View H I → Type 0
  TurnsAs answer old new = (sent : Sent) × (mid : View H I) × SendsAs sent old mid × GoesOn sent answer mid new
