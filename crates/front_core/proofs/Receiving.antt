-- A packet was accepted, or came back.
use Rattle.std.proofs.Common.{◌≡◌, ℕ, ◌+◌, ◌^◌, ◌<◌, Bool, List, length, length-set, get_or, set, sym, ap, subst, ◌∙◌}
use Rattle.std.specs.Prelude.{Option, Some}
use Rattle.lane_core.specs.Ends.{raised}
use Rattle.pc_base.specs.declared.packet.Packet.{Packet}
use Rattle.subscriber.specs.Standing.{commands_met}
use Rattle.control_half.specs.Half as control_half
use Rattle.counter_half.specs.Half as counter_half
use Rattle.counter_half.specs.declared.items.DataItem.{DataItem}
use Rattle.split_record.specs.declared.front.FrontEnd.{FrontEnd}
use Rattle.split_record.specs.Accepted.{MayStand}
use Rattle.split_record.specs.Rejoined.{IsItemOf, commands_sent}
use Rattle.front_core.specs.SidesSteps as step
use Rattle.front_core.specs.declared.lot.Lot.{Lot}
use Rattle.front_core.specs.declared.lot.Lot.TheVariants.{Split}
use Rattle.front_core.specs.declared.halves.Halves.{Halves}
use Rattle.front_core.specs.Lots.{IsSplit, LotAccepts, MakesItem, MayAccept}
use Rattle.front_core.specs.Steps.{IsSamePacket, MayGive, PacketsFull, Received}
use Rattle.front_core.specs.Tries.{TriesPacket, packets_refused}
use Rattle.front_core.specs.declared.tried.Tried.TheVariants as tried
use Rattle.front_core.specs.Views.{both, view_at}
use Rattle.front_core.proofs.Lots.{of_split}
use Rattle.front_core.proofs.Trying.{rises_one}
use Rattle.front_core.proofs.Setting.{keeps_sides, lot_here, lot_low, others_settle, same_grown, sides_settle, split_here}

module _ (old : Halves) (at slot : ℕ) (is : at ≡ slot) (may : MayGive slot old) where
  -- what stands at its place is the lot of a split subscriber
  pub makes_items : (was : Option Lot) → was ≡ get_or old.lots.items at was → IsSplit was
  makes_items was read =
      of_split (λ (end : FrontEnd). Unit {0}) may.end was (split_here old at slot is may was read) tt

  pub may_accept : (was : Option Lot) → was ≡ get_or old.lots.items at was → MayAccept was
  may_accept was read =
      of_split (λ (end : FrontEnd). end.packets < end.started.value.packets + 2 ^ 50) may.end was
      (split_here old at slot is may was read) may.packets_few

  module _ (line : ℕ) (packet : Packet) (item : DataItem) (was : Option Lot)
      (read : was ≡ get_or old.lots.items at was) (makes : MakesItem line packet was item) where
    made_by : IsItemOf may.end line packet item
        × MayStand (commands_met may.end.started.value) (commands_sent may.end) item
    made_by =
        subst (λ (l : Option Lot). MakesItem line packet l item) (split_here old at slot is may was read) makes

    item_slot : item.slot ≡ slot
    item_slot = made_by.0.slot ∙ may.own

    pub received : (new : Halves) (parked : Bool) (before lot : Option Lot) → before ≡ get_or old.lots.items at before
        → parked ≡ (view_at old item.slot).parks → new.lots.items ≡ set old.lots.items at lot → new.room ≡ old.room
        → LotAccepts before lot
        → step.Received control_half.name_of counter_half.name_of item.slot item (both old) (both new)
        → Received slot line packet parked old new
    received new parked before lot read_again told changed room accepts gave =
        let low = lot_low old at slot is may in
        let parks : parked ≡ (view_at old slot).parks = told ∙ ap (λ (n : ℕ). (view_at old n).parks) item_slot in
        let set_there : new.lots.items ≡ set old.lots.items slot lot =
        changed ∙ ap (λ (k : ℕ). set old.lots.items k lot) is in
        let at_slot : step.Received control_half.name_of counter_half.name_of slot item (both old) (both new) =
        subst (λ (n : ℕ). step.Received control_half.name_of counter_half.name_of n item (both old) (both new)) item_slot
        gave in
        let goes : LotAccepts (Some (Split may.end)) lot =
        subst (λ (l : Option Lot). LotAccepts l lot) (split_here old at slot is may before read_again) accepts in
        record {
          others = others_settle old new old.lots.items slot lot (same_grown old.lots.items) low set_there
              at_slot.others;
          sides = keeps_sides old new at_slot.sides room;
          lots = ap (λ (l : List (Option Lot)). length l) changed ∙ length-set old.lots.items at lot;
          end = may.end;
          after = goes.0;
          item = item;
          was = may.lot;
          is = lot_here old new old.lots.items slot lot (same_grown old.lots.items) low set_there ∙ goes.1;
          control = at_slot.control;
          data_half = at_slot.data_half;
          moved = at_slot.moved;
          accepts = goes.2;
          made = made_by.0;
          stands = made_by.1;
          accepted = at_slot.accepted;
          parked_is = parks;
          parks = at_slot.parks ∙ sym parks;
          load_accepted = at_slot.load_accepted;
          load_admitted = at_slot.load_admitted;
          load_asked = at_slot.load_asked;
          asked = at_slot.asked;
        }

    -- the packet of an item that comes back
    same_back : (back : DataItem) → back ≡ item → IsSamePacket back.packet packet
    same_back back same =
        ap (λ (p : Packet). record p { number = 0 }) (ap (λ (i : DataItem). i.packet) same ∙ made_by.0.packet_is)

    came_full : (new : Halves)
        → ((lane : ℕ) → step.AreLanes lane (both old)
        → step.WasFull control_half.name_of counter_half.name_of item.slot lane (both old) (both new))
        → PacketsFull slot old new
    came_full new full = λ lane are.
        subst (λ (n : ℕ). step.WasFull control_half.name_of counter_half.name_of n lane (both old) (both new)) item_slot
        (full lane are)

    pub comes_back : (new : Halves) (back : DataItem) → back ≡ item
        → step.Settles control_half.name_of counter_half.name_of (both old) (both new)
        → new.lots.items ≡ old.lots.items → new.room ≡ old.room
        → ((lane : ℕ) → step.AreLanes lane (both old)
        → step.WasFull control_half.name_of counter_half.name_of item.slot lane (both old) (both new))
        → new.fulls ≡ raised old.fulls → packets_refused new ≡ raised (packets_refused old)
        → TriesPacket slot line packet (tried.Full back.packet) old new
    comes_back new back same settles lots room full fulls refused = (
      sides_settle old new settles lots room,
      same_back back same,
      came_full new full,
      rises_one old.fulls new.fulls fulls,
      rises_one (packets_refused old) (packets_refused new) refused,
    )
