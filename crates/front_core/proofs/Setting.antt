-- The lot of one slot was set.
use Rattle.std.proofs.Common.{◌≡◌, ◌≢◌, ℕ, ◌<◌, List, length, set, get_or, get_or-set_same, get_or-set_other, append-nil, sym, ap, ◌∙◌}
use Rattle.std.specs.Prelude.{Option, Some, None}
use Rattle.std.proofs.lemmas.List.{get_or_default}
use Rattle.worker_core.specs.BySlot.{Grown}
use Rattle.worker_core.specs.Desks.{lanes_of}
use Rattle.control_half.specs.declared.half.ControlHalf.{ControlHalf}
use Rattle.control_half.specs.Half as control_half
use Rattle.control_half.specs.Named as control_named
use Rattle.counter_half.specs.declared.half.DataHalf.{DataHalf}
use Rattle.counter_half.specs.declared.items.DataItem.{DataItem}
use Rattle.counter_half.specs.Half as counter_half
use Rattle.counter_half.specs.Named as data_named
use Rattle.front_core.specs.Sides as sides
use Rattle.front_core.specs.SidesSteps as step
use Rattle.front_core.proofs.Lists.{at_grown, within}
use Rattle.front_core.specs.declared.lot.Lot.{Lot}
use Rattle.front_core.specs.declared.lot.Lot.TheVariants.{Split}
use Rattle.front_core.specs.declared.halves.Halves.{Halves}
use Rattle.front_core.specs.Lots.{lot_of}
use Rattle.front_core.specs.Steps.{MayGive, OthersSettle, SidesKeep, Settles, ViewSettles}
use Rattle.front_core.specs.Views.{both, side_at, view_at}
use Rattle.front_core.proofs.Settling.{lot_still}

abbrev pub Views : Type 0
Views = sides.View control_named.Named data_named.Named DataItem

abbrev pub Sides : Type 0
Sides = sides.Both ControlHalf DataHalf DataItem

-- what is had of a slot, where its lot is as it was and its sides settled
pub view_settles : (old new : Halves) (slot : ℕ) → lot_of new.lots.items slot ≡ lot_of old.lots.items slot
    → step.ViewSettles (side_at old slot) (side_at new slot) → ViewSettles (view_at old slot) (view_at new slot)
view_settles old new slot lot view = record {
  lot = lot_still (lot_of old.lots.items slot) (lot_of new.lots.items slot) lot;
  control = view.control;
  data_half = view.data_half;
  accepted = view.accepted;
  moved = view.moved;
  parks = view.parks;
}

pub keeps_sides : (old new : Halves) → step.SidesKeep (both old) (both new) → new.room ≡ old.room → SidesKeep old new
keeps_sides old new keeps room = record {
  control_lanes = keeps.control_lanes;
  data_lanes = keeps.data_lanes;
  queues = keeps.queues;
  room = room;
}

-- both sides settled
pub sides_settle : (old new : Halves)
    → step.Settles control_half.name_of counter_half.name_of (both old) (both new)
    → new.lots.items ≡ old.lots.items → new.room ≡ old.room → Settles old new
sides_settle old new settles lots room = record {
  views = λ slot.
      view_settles old new slot (ap (λ (l : List (Option Lot)). lot_of l slot) lots) (settles.views slot);
  sides = keeps_sides old new settles.sides room;
  lots = ap (λ (l : List (Option Lot)). length l) lots;
  load = settles.load;
  asked = settles.asked;
}

-- the same sides
pub same_settles : (old new : Halves) → both new ≡ both old
    → step.Settles control_half.name_of counter_half.name_of (both old) (both new)
same_settles old new same =
    let at : (slot : ℕ) → side_at new slot ≡ side_at old slot =
    λ slot. ap (λ (b : Sides). sides.view_of control_half.name_of counter_half.name_of b slot) same in
    record {
      views = λ slot. record {
        control = ap (λ (v : Views). v.control) (at slot);
        data_half = ap (λ (v : Views). v.data_half) (at slot);
        accepted = ap (λ (v : Views). v.accepted) (at slot);
        moved = ap (λ (v : Views). v.moved) (at slot);
        parks = λ rests. ap (λ (v : Views). v.parks) (at slot) ∙ rests;
      };
      sides = record {
        control_lanes = ap (λ (b : Sides). lanes_of b.control_desks) same;
        data_lanes = ap (λ (b : Sides). lanes_of b.desks) same;
        queues = ap (λ (b : Sides). b.queue_room) same;
      };
      load = ap (λ (b : Sides). sides.load_of counter_half.name_of b) same;
      asked = ap (λ (b : Sides). b.control_asked) same;
    }

-- what stands at the place of a slot
pub lot_read : (lots : List (Option Lot)) (at slot : ℕ) (lot : Option Lot) → at ≡ slot → slot < length lots
    → lot ≡ get_or lots at lot → lot_of lots slot ≡ lot
lot_read lots at slot lot is low read =
    sym (read ∙ ap (λ (k : ℕ). get_or lots k lot) is ∙ get_or_default lots slot lot None low)

pub same_grown : (lots : List (Option Lot)) → Grown lots lots
same_grown lots = (0, sym (append-nil lots))

module _ (old new : Halves) (mid : List (Option Lot)) (slot : ℕ) (lot : Option Lot) (grown : Grown old.lots.items mid)
    (low : slot < length mid) (changed : new.lots.items ≡ set mid slot lot) where
  pub lot_here : lot_of new.lots.items slot ≡ lot
  lot_here = ap (λ (l : List (Option Lot)). lot_of l slot) changed ∙ get_or-set_same mid slot lot None low

  pub lot_there : (other : ℕ) → other ≢ slot → lot_of new.lots.items other ≡ lot_of old.lots.items other
  lot_there other ne =
      ap (λ (l : List (Option Lot)). lot_of l other) changed ∙ get_or-set_other mid slot other lot None ne
      ∙ at_grown old.lots.items mid other grown

  pub lot_before : lot_of mid slot ≡ lot_of old.lots.items slot
  lot_before = at_grown old.lots.items mid slot grown

  pub others_settle : ((other : ℕ) → other ≢ slot → step.ViewSettles (side_at old other) (side_at new other))
      → OthersSettle slot old new
  others_settle views other ne = view_settles old new other (lot_there other ne) (views other ne)

-- the lot of a split subscriber, at its place
module _ (halves : Halves) (at slot : ℕ) (is : at ≡ slot) (may : MayGive slot halves) where
  pub lot_low : slot < length halves.lots.items
  lot_low = within halves.lots.items slot (Split may.end) may.lot

  pub split_here : (was : Option Lot) → was ≡ get_or halves.lots.items at was → was ≡ Some (Split may.end)
  split_here was read = sym (lot_read halves.lots.items at slot was is lot_low read) ∙ may.lot
