-- What any steps at one slot keep, of the slot and of all others.
use Rattle.std.specs.Prelude.{◌≡◌, ◌≢◌, ℕ, ◌+◌, ◌^◌, ◌<◌, ◌≤◌, true, false, List, length}
use Rattle.std.specs.Prelude.{Option, Some, None}
use Rattle.std.specs.List.{sum_by, All}
use Rattle.worker_core.specs.DataDesks.{DataDesk}
use Rattle.worker_core.specs.DataOrders.{stands, now_of, gone_of}
use Rattle.worker_core.specs.Counts.{Lasts}
use Rattle.migration.specs.declared.data_place.DataPlace.{DataPlace}
use Rattle.migration.specs.declared.data_place.DataState.{DataState}
use Rattle.migration.specs.declared.data_place.DataState.TheVariants.{Front, Placed, Recall, Leaving}
use Rattle.migration.specs.DataDesks.{sent_weight}
use Rattle.worker_core.specs.Desks.{lanes_of, homes_of, sent_at, home_at, order_count, fulls_at}
use Rattle.migration.specs.DataPlaces.{pending, pending_at, front_weight, accepted_by, at_end_at, to_end_at, queue_at}
use Rattle.migration.specs.DataStays.{Stay, Where, AtFront, Here, Away, SlotKnows}

-- the state of a slot, its queue, the items that were accepted for it, and the desks
pub record Stand (H I : Type 0) : Type 0 where
  pub state : DataState H
  pub queue : List I
  pub accepted : List I
  pub desks : List (DataDesk H I)

abbrev pub stand_of : {H I : Type 0} → DataPlace H I → List (DataDesk H I) → Stand H I
stand_of place desks = record {
  state = place.state;
  queue = place.queue.items;
  accepted = accepted_by place;
  desks = desks;
}

-- what a state says of where the half is
abbrev pub StateIs : {H I : Type 0} → (H → ℕ) → (H → List I) → ℕ → DataState H → Where I → Type 0
StateIs slot handled s (Front half to) place = (place ≡ AtFront (handled half)) × (slot half ≡ s)
StateIs {H} {I} slot handled s (Placed at) place = (came : List I) × (items : List I) × (place ≡ Here at came items)
StateIs {H} {I} slot handled s (Recall at to) place = (came : List I) × (items : List I)
    × (place ≡ Here at came items)
StateIs {H} {I} slot handled s (Leaving from to) place = (came : List I) × (items : List I)
    × (place ≡ Away from came items)

-- what is known of a slot while its place is in hand
pub record StandTells {H I : Type 0} (slot : H → ℕ) (item_slot : I → ℕ) (handled : H → List I) (s : ℕ)
    (homes : ℕ → List H) (asides : ℕ → List (List I)) (stand : Stand H I) : Type 0 where
  pub stays : List (Stay I)
  pub half : Where I
  pub knows : SlotKnows slot item_slot handled s (sent_at stand.desks) homes asides stays half stand.queue
      stand.accepted
  pub is : StateIs slot handled s stand.state half

-- what steps at the slot s keep, which may owe so many orders more
pub record Keeps {H I : Type 0} (slot : H → ℕ) (item_slot : I → ℕ) (handled : H
    → List I) (s spare : ℕ) (old new : Stand H I) : Type 0 where
  pub lanes : lanes_of new.desks ≡ lanes_of old.desks
  pub ends : homes_of new.desks ≡ homes_of old.desks
  pub homes : (d : ℕ) → home_at new.desks d ≡ home_at old.desks d
  pub long : length new.desks ≡ length old.desks
  pub weight : (h : H → ℕ) → front_weight h new.state + sum_by (sent_weight h) new.desks ≡ front_weight h
      old.state + sum_by (sent_weight h) old.desks
  pub orders : sum_by order_count new.desks + pending new.state + length new.queue + length old.accepted
      ≤ sum_by order_count old.desks + pending old.state + length old.queue + length new.accepted + spare
  pub fulls : (d : ℕ) → Lasts (fulls_at old.desks d) (fulls_at new.desks d)
  pub nows : (t : ℕ) → t ≢ s → (d : ℕ) → now_of slot item_slot handled t (sent_at new.desks d) ≡ now_of slot
      item_slot handled t (sent_at old.desks d)
  pub gones : (t : ℕ) → t ≢ s → (d : ℕ) → gone_of slot item_slot handled t (sent_at new.desks d) ≡ gone_of slot
      item_slot handled t (sent_at old.desks d)
  pub tells : (lists : ℕ → List H) (asides : ℕ → List (List I))
      → StandTells slot item_slot handled s lists asides old → StandTells slot item_slot handled s lists asides new

-- the same of a place
abbrev pub PlaceKeeps : {H I : Type 0} → (H → ℕ) → (I → ℕ) → (H → List I) → ℕ → ℕ → Option (DataPlace H I)
    → Option (DataPlace H I)
    → List (DataDesk H I) → List (DataDesk H I) → Type 0
PlaceKeeps slot item_slot handled s spare None new desks now = (new ≡ None) × (now ≡ desks)
PlaceKeeps {H} {I} slot item_slot handled s spare (Some before) new desks now =
    (after : DataPlace H I) × (new ≡ Some after) × (after.admitted ≡ before.admitted)
    × Keeps slot item_slot handled s spare (stand_of before desks) (stand_of after now)

-- the law of the lane allows the order that a state gives, and items where the half is placed
abbrev pub MayGive : {H I : Type 0} → (H → ℕ) → (I → ℕ) → ℕ → DataState H → List (DataDesk H I) → Type 0
MayGive slot item_slot s (Front half to) desks = (slot half ≡ s)
    × (stands slot item_slot s (sent_at desks to) ≡ false)
MayGive slot item_slot s (Placed at) desks = stands slot item_slot s (sent_at desks at) ≡ true
MayGive slot item_slot s (Recall at to) desks = stands slot item_slot s (sent_at desks at) ≡ true
MayGive slot item_slot s (Leaving from to) desks = Unit {0}

abbrev pub MayGiveAt : {H I : Type 0} → (H → ℕ) → (I → ℕ) → ℕ → Option (DataPlace H I) → List (DataDesk H I) → Type 0
MayGiveAt slot item_slot s None desks = Unit {0}
MayGiveAt slot item_slot s (Some place) desks = MayGive slot item_slot s place.state desks

-- the slices of a state are those of the desks, these have room, the law allows its order, and the queue has items
-- of the slot
pub record IsReady {H I : Type 0} (slot : H → ℕ) (item_slot : I
    → ℕ) (s : ℕ) (place : Option (DataPlace H I)) (desks : List (DataDesk H I)) : Type 0 where
  pub at : at_end_at place ≤ length desks
  pub to : to_end_at place ≤ length desks
  pub few : sum_by order_count desks + pending_at place + 2 < 2 ^ 50
  pub law : MayGiveAt slot item_slot s place desks
  pub own : All (λ x. item_slot x ≡ s) (queue_at place)
