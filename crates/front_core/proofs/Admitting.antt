-- A subscriber was split, and its halves were admitted.
use Rattle.std.proofs.Common.{◌≡◌, ℕ, ◌<◌, Bool, List, [], length, set, refl, sym, ap, subst, ◌∙◌}
use Rattle.std.specs.Prelude.{Option, Some, None}
use Rattle.worker_core.specs.BySlot.{Grown}
use Rattle.subscriber.specs.Standing.{SubscriberState, StandsFor, last_of}
use Rattle.control_half.specs.declared.half.ControlHalf.{ControlHalf}
use Rattle.control_half.specs.Half as control_half
use Rattle.counter_half.specs.declared.half.DataHalf.{DataHalf}
use Rattle.counter_half.specs.Half as counter_half
use Rattle.counter_half.specs.Named as data_named
use Rattle.split_record.specs.declared.front.FrontEnd.{FrontEnd}
use Rattle.split_record.specs.Rejoined as split
use Rattle.front_core.specs.Placing.{HalvesEnter}
use Rattle.front_core.specs.SidesSteps as step
use Rattle.front_core.specs.declared.lot.Lot.{Lot}
use Rattle.front_core.specs.declared.lot.Lot.TheVariants.{Split}
use Rattle.front_core.specs.declared.halves.Halves.{Halves}
use Rattle.front_core.specs.Lots.{lot_of, end_of, lot_moved}
use Rattle.front_core.specs.Steps.{MayAdmit, SlotAdmits}
use Rattle.front_core.specs.Views.{both, view_at}
use Rattle.front_core.proofs.Lots.{rest_moved}
use Rattle.front_core.proofs.Setting.{keeps_sides, lot_before, lot_here, others_settle}

-- the data half of a split subscriber is of its slot
module _ (slot room hop : ℕ) (was : SubscriberState) (end : FrontEnd) (control : ControlHalf) (data_half : DataHalf)
    (is_split : split.IsSplit was room hop end control data_half) (own : was.session.slot ≡ slot) where
  data_slot : data_named.slot_of (counter_half.name_of data_half) ≡ slot
  data_slot =
      ap (λ (s : SubscriberState). s.session.slot) is_split.one.started
      ∙ ap (λ (s : SubscriberState). s.session.slot) is_split.started ∙ own

sides_may_admit : (slot at slice : ℕ) (subscriber : SubscriberState) (halves : Halves)
    → MayAdmit slot subscriber halves → end_of (lot_of halves.lots.items slot) ≡ None → at ≡ slot
    → slice ≡ subscriber.destination
    → step.MayAdmit control_half.name_of counter_half.name_of at slice (both halves)
sides_may_admit slot at slice subscriber halves may unsplit same bound =
    let fresh = may.fresh unsplit in
    subst (λ (n : ℕ). step.MayAdmit control_half.name_of counter_half.name_of n slice (both halves)) (sym same)
    (subst (λ (n : ℕ). step.MayAdmit control_half.name_of counter_half.name_of slot n (both halves)) (sym bound)
    (record {
      control_slice = may.control_slice;
      data_slice = may.data_slice;
      control_asked = may.control_asked;
      data_asked = may.data_asked;
      no_control = fresh.0;
      no_data = fresh.1;
    }))

-- the halves of a split subscriber may be admitted
pub halves_may_enter : (slot room slice : ℕ) (was own : SubscriberState) (halves : Halves) (end : FrontEnd)
    (control : ControlHalf) (data_half : DataHalf) → MayAdmit slot was halves → end_of (lot_of halves.lots.items slot) ≡ None
    → own ≡ was → split.IsSplit own room 0 end control data_half → slice ≡ was.destination
    → step.MayAdmit control_half.name_of counter_half.name_of (data_named.slot_of (counter_half.name_of data_half)) slice
    (both halves)
halves_may_enter slot room slice was own halves end control data_half may unsplit same splits bound =
    sides_may_admit slot (data_named.slot_of (counter_half.name_of data_half)) slice was halves may unsplit
    (data_slot slot room 0 was end control data_half
    (subst (λ (s : SubscriberState). split.IsSplit s room 0 end control data_half) same splits) may.own) bound

admitted : (old new : Halves) (mid : List (Option Lot)) (slot room : ℕ) (was is : SubscriberState) (end : FrontEnd)
    (control : ControlHalf) (data_half : DataHalf) → Grown old.lots.items mid → slot < length mid
    → new.lots.items ≡ set mid slot (Some (Split end)) → new.room ≡ old.room → room ≡ old.room
    → end_of (lot_of old.lots.items slot) ≡ None → split.IsSplit was room 0 end control data_half
    → was.session.slot ≡ slot
    → step.SlotAdmits control_half.name_of counter_half.name_of control_half.hop_of
    (data_named.slot_of (counter_half.name_of data_half)) was.destination (lot_moved (lot_of mid slot)) control data_half (both old)
    (both new)
    → StandsFor is slot [] 0 → is.destination ≡ was.destination → last_of is ≡ None → SlotAdmits slot was is old new
admitted old new mid slot room was is end control data_half grown low changed rooms room_is unsplit splits own admits stands
    bound last =
    let at_slot : step.SlotAdmits control_half.name_of counter_half.name_of control_half.hop_of slot was.destination
    (lot_moved (lot_of mid slot)) control data_half (both old) (both new) =
    subst (λ (n : ℕ). step.SlotAdmits control_half.name_of counter_half.name_of control_half.hop_of n was.destination
    (lot_moved (lot_of mid slot)) control data_half (both old) (both new))
    (data_slot slot room 0 was end control data_half splits own) admits in
    record {
      others = others_settle old new mid slot (Some (Split end)) grown low changed at_slot.others;
      sides = keeps_sides old new at_slot.sides rooms;
      unsplit = unsplit;
      end = end;
      lot = lot_here old new mid slot (Some (Split end)) grown low changed;
      half = control_half.name_of control;
      counter = counter_half.name_of data_half;
      control = at_slot.control_is;
      data_half = at_slot.data_is;
      own_control = control;
      own_data = data_half;
      enters = subst (λ (m : Bool). HalvesEnter control_half.name_of control_half.hop_of slot was.destination m control
          data_half (both old) (both new)) (sym at_slot.moved_is) at_slot.enters;
      one = record {
        session = splits.one.session;
        number = splits.one.number;
        commands = splits.one.commands;
        versions = splits.one.versions;
        started = splits.one.started;
      };
      started = splits.started;
      none_sent = splits.commands;
      counts = splits.counts;
      floors = splits.floors;
      hop = splits.hop_is.0;
      lane_room = splits.rooms.0 ∙ room_is;
      own = splits.slot ∙ own;
      accepted = at_slot.accepted;
      moved = at_slot.moved_is ∙ ap lot_moved (lot_before old new mid slot (Some (Split end)) grown low changed)
          ∙ sym (rest_moved (lot_of old.lots.items slot) (view_at old slot).moved unsplit);
      parks = λ parks. at_slot.moved_is ∙ at_slot.parks parks;
      represents = stands;
      destination = bound;
      last = last;
      load_accepted = at_slot.load_accepted;
      load_admitted = at_slot.load_admitted;
      asked = at_slot.asked;
      control_asked = at_slot.control_asked;
    }

-- by what was read and made at its place
pub admits : (old new : Halves) (mid : List (Option Lot)) (at slot slice : ℕ) (was own is fresh : SubscriberState)
    (before : Option Lot) (moved : Bool) (end : FrontEnd) (control : ControlHalf) (data_half : DataHalf)
    → Grown old.lots.items mid → at ≡ slot → slot < length mid → lot_of mid slot ≡ before
    → moved ≡ lot_moved before → own ≡ was → is ≡ fresh → MayAdmit slot was old
    → end_of (lot_of old.lots.items slot) ≡ None → split.IsSplit own old.room 0 end control data_half
    → slice ≡ was.destination
    → step.SlotAdmits control_half.name_of counter_half.name_of control_half.hop_of
    (data_named.slot_of (counter_half.name_of data_half)) slice moved control data_half (both old) (both new)
    → new.lots.items ≡ set mid at (Some (Split end)) → new.room ≡ old.room → StandsFor fresh slot [] 0
    → fresh.destination ≡ was.destination → last_of fresh ≡ None → SlotAdmits slot was is old new
admits old new mid at slot slice was own is fresh before moved end control data_half grown at_is low read has same now may
    unsplit splits slice_is gave changed rooms stands bound last =
    admitted old new mid slot old.room was is end control data_half grown low
    (changed ∙ ap (λ (k : ℕ). set mid k (Some (Split end))) at_is) rooms refl unsplit
    (subst (λ (s : SubscriberState). split.IsSplit s old.room 0 end control data_half) same splits) may.own
    (subst (λ (d : ℕ). step.SlotAdmits control_half.name_of counter_half.name_of control_half.hop_of
    (data_named.slot_of (counter_half.name_of data_half)) d (lot_moved (lot_of mid slot)) control data_half (both old) (both new))
    slice_is
    (subst (λ (m : Bool). step.SlotAdmits control_half.name_of counter_half.name_of control_half.hop_of
    (data_named.slot_of (counter_half.name_of data_half)) slice m control data_half (both old) (both new))
    (has ∙ ap lot_moved (sym read)) gave))
    (subst (λ (s : SubscriberState). StandsFor s slot [] 0) (sym now) stands)
    (ap (λ (s : SubscriberState). s.destination) now ∙ bound)
    (ap last_of now ∙ last)
