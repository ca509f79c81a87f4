-- What steps of the halves make of what is kept of lines.
use Rattle.std.proofs.Common.{◌≡◌, ℕ, ◌+◌, ◌≤◌, ◌⊎◌, inl, inr, Bool, true, false, true≢false, is_some, List, [], ◌∷◌, ◌++◌, length, map, refl, sym, ap, subst, ◌∙◌, arith}
use Rattle.std.specs.Prelude.{Option, Some, None}
use Rattle.std.specs.Option.{option_map}
use Rattle.std.proofs.lemmas.List.{map-append, length-map}
use Rattle.pc_base.specs.declared.packet.Packet.{Packet}
use Rattle.control_steps.specs.declared.command.CommandKind.{CommandKind}
use Rattle.demux.specs.declared.packet.LentPacket.{LentPacket}
use Rattle.subscriber.specs.Standing.{SubscriberState, commands_met}
use Rattle.control_half.specs.declared.items.CommandItem.{CommandItem}
use Rattle.counter_half.specs.declared.items.DataItem.{DataItem}
use Rattle.split_record.specs.declared.front.FrontEnd.{FrontEnd}
use Rattle.split_record.specs.Rejoined.{AreAccepted, IsItemOf, commands_sent}
use Rattle.front_core.specs.Kept.{Ends, Load, new_ends, with_command, with_packet, moved_on}
use Rattle.front_core.specs.Lines.{Goes, Eases, IsAdmitted, LaneWasFull, MayPark, Commands, Packets, newly}
use Rattle.front_core.specs.declared.lot.Lot.{Lot}
use Rattle.front_core.specs.declared.lot.Lot.TheVariants.{Moved, Split}
use Rattle.front_core.specs.declared.halves.Halves.{Halves}
use Rattle.front_core.specs.Lots.{EndSettles, EndMoved, EndSends, EndAccepts, LotSettles, LotMoves, end_of}
use Rattle.lane_core.specs.Ends.{sender_lane}
use Rattle.front_core.specs.Steps.{AreLanes, ViewSettles, OthersSettle, Settles, SlotMoves, SlotAdmits, IsReady, Commanded, CommandsFull, Received, PacketsFull}
use Rattle.front_core.specs.Views.{both, View, view_at, part_of, parts_of, own_of, moved_by, ends_of, lent_of, load_of}
use Rattle.front_core.proofs.Settling.{view_then, sides_then, settles_then}
use Rattle.front_core.proofs.Trying.{was_parked}
use Rattle.front_core.specs.Ready.{Prepared}

-- a front end that settled tells what it told
ends_settle : (end after : FrontEnd) (accepted now : List DataItem) → EndSettles end after → now ≡ accepted
    → ends_of after now ≡ ends_of end accepted
ends_settle end after accepted now settles same = λ i. record {
  first_command = commands_met (settles.same.started i).value;
  first_packet = (settles.same.started i).value.packets;
  commands = map (λ (c : CommandItem). c.command) (settles.commands.0 i);
  command_floors = map (λ (c : CommandItem). c.floor) (settles.commands.0 i);
  packets = map (λ (item : DataItem). lent_of item.packet) (same i);
  packet_floors = map (λ (item : DataItem). item.floor) (same i);
  commands_before = settles.floors.1 i;
  packets_before = settles.floors.0 i;
}

own_settles : (old new : Option Lot) (accepted now : List DataItem) → LotSettles old new → now ≡ accepted
    → own_of new now ≡ own_of old accepted
own_settles None new accepted now settles same = ap (λ l. own_of l now) settles
own_settles (Some Moved) new accepted now settles same = ap (λ l. own_of l now) settles
own_settles (Some (Split end)) new accepted now settles same =
    ap (λ l. own_of l now) settles.1 ∙ ap Some (ends_settle end settles.0 accepted now settles.2 same)

moved_settles : (old new : Option Lot) (was is : Bool) → LotSettles old new → is ≡ was
    → moved_by new is ≡ moved_by old was
moved_settles None new was is settles same = ap (λ l. moved_by l is) settles
moved_settles (Some Moved) new was is settles same = ap (λ l. moved_by l is) settles
moved_settles (Some (Split end)) new was is settles same = ap (λ l. moved_by l is) settles.1 ∙ same

pub eases : (old new : View) → ViewSettles old new → Eases (part_of old) (part_of new)
eases old new settles = record {
  own = own_settles old.lot new.lot old.accepted new.accepted settles.lot settles.accepted;
  moved = moved_settles old.lot new.lot old.moved new.moved settles.lot settles.moved;
  parks = was_parked old.parks new.parks settles.parks;
}

-- one that moved
ends_moved : (end after : FrontEnd) (accepted now : List DataItem) → EndMoved end after → now ≡ accepted
    → AreAccepted end accepted → ends_of after now ≡ moved_on (ends_of end accepted)
ends_moved end after accepted now moves same are =
    let counted = end.counted in
    let many = length-map (commands_sent end) (λ (c : CommandItem). c.command) in
    let commands : after.commands_before ≡ commands_met end.started.value
    + length (map (λ (c : CommandItem). c.command) (commands_sent end)) =
    moves.floors.1 ∙ omega (arith, counted, many) in
    let all = length-map accepted (λ (item : DataItem). lent_of item.packet) in
    let packets_counted = are.counted in
    let packets : after.packets_before ≡ end.started.value.packets
    + length (map (λ (item : DataItem). lent_of item.packet) accepted) =
    moves.floors.0 ∙ omega (arith, packets_counted, all) in
    λ i. record {
      first_command = commands_met (moves.same.started i).value;
      first_packet = (moves.same.started i).value.packets;
      commands = map (λ (c : CommandItem). c.command) (moves.commands.0 i);
      command_floors = map (λ (c : CommandItem). c.floor) (moves.commands.0 i);
      packets = map (λ (item : DataItem). lent_of item.packet) (same i);
      packet_floors = map (λ (item : DataItem). item.floor) (same i);
      commands_before = commands i;
      packets_before = packets i;
    }

pub own_moves : (old new : Option Lot) (accepted now : List DataItem) → LotMoves old new → now ≡ accepted
    → ((end : FrontEnd) → old ≡ Some (Split end) → AreAccepted end accepted)
    → own_of new now ≡ option_map {T = Ends} {U = Ends} moved_on (own_of old accepted)
own_moves None new accepted now moves same are = ap (λ l. own_of l now) moves
own_moves (Some Moved) new accepted now moves same are = ap (λ l. own_of l now) moves
own_moves (Some (Split end)) new accepted now moves same are =
    ap (λ l. own_of l now) moves.1 ∙ ap Some (ends_moved end moves.0 accepted now moves.2 same (are end refl))

-- one that was split now
pub ends_new : (end : FrontEnd) (was : SubscriberState) (accepted : List DataItem) → end.started.value ≡ was
    → commands_sent end ≡ [] → (end.commands_before ≡ commands_met was) × (end.packets_before ≡ was.packets)
    → accepted ≡ [] → ends_of end accepted ≡ new_ends (commands_met was) was.packets
ends_new end was accepted started none floors nothing = λ i. record {
  first_command = commands_met (started i);
  first_packet = (started i).packets;
  commands = map (λ (c : CommandItem). c.command) (none i);
  command_floors = map (λ (c : CommandItem). c.floor) (none i);
  packets = map (λ (item : DataItem). lent_of item.packet) (nothing i);
  packet_floors = map (λ (item : DataItem). item.floor) (nothing i);
  commands_before = floors.0 i;
  packets_before = floors.1 i;
}

-- one that sent a command
pub ends_sends : (line : ℕ) (c : CommandKind) (end after : FrontEnd) (accepted now : List DataItem)
    → EndSends line c end after → now ≡ accepted → ends_of after now ≡ with_command c (ends_of end accepted)
ends_sends line c end after accepted now sends same =
    let one : CommandItem = record {
      number = end.commands;
      hop = end.hop;
      floor = end.packets_before;
      line = line;
      command = c;
    } in
    let commands = ap (map (λ (item : CommandItem). item.command)) sends.sends.sent_is
    ∙ map-append (λ (item : CommandItem). item.command) (commands_sent end) (one ∷ []) in
    let floors = ap (map (λ (item : CommandItem). item.floor)) sends.sends.sent_is
    ∙ map-append (λ (item : CommandItem). item.floor) (commands_sent end) (one ∷ []) in
    λ i. record {
      first_command = commands_met (sends.same.started i).value;
      first_packet = (sends.same.started i).value.packets;
      commands = commands i;
      command_floors = floors i;
      packets = map (λ (item : DataItem). lent_of item.packet) (same i);
      packet_floors = map (λ (item : DataItem). item.floor) (same i);
      commands_before = sends.floors.1 i;
      packets_before = sends.floors.0 i;
    }

-- one of which an item was accepted
pub ends_accepts : (line : ℕ) (packet : Packet) (item : DataItem) (end after : FrontEnd)
    (accepted now : List DataItem) → EndAccepts end after → IsItemOf end line packet item
    → now ≡ accepted ++ item ∷ []
    → ends_of after now ≡ with_packet (lent_of packet) (ends_of end accepted)
ends_accepts line packet item end after accepted now accepts made more =
    let packets = ap (map (λ (i : DataItem). lent_of i.packet)) more
    ∙ map-append (λ (i : DataItem). lent_of i.packet) accepted (item ∷ [])
    ∙ ap (λ p. map (λ (i : DataItem). lent_of i.packet) accepted ++ lent_of p ∷ []) made.packet_is in
    let floors = ap (map (λ (i : DataItem). i.floor)) more
    ∙ map-append (λ (i : DataItem). i.floor) accepted (item ∷ [])
    ∙ ap (λ f. map (λ (i : DataItem). i.floor) accepted ++ f ∷ []) made.floor in
    λ i. record {
      first_command = commands_met (accepts.same.started i).value;
      first_packet = (accepts.same.started i).value.packets;
      commands = map (λ (c : CommandItem). c.command) (accepts.commands.0 i);
      command_floors = map (λ (c : CommandItem). c.floor) (accepts.commands.0 i);
      packets = packets i;
      packet_floors = floors i;
      commands_before = accepts.floors.1 i;
      packets_before = accepts.floors.0 i;
    }

-- one front end of a lot
abbrev end_or : FrontEnd → Option Lot → FrontEnd
end_or other None = other
end_or other (Some Moved) = other
end_or other (Some (Split end)) = end

pub split_same : (end other : FrontEnd) → ◌≡◌ {A = Option Lot} (Some (Split end)) (Some (Split other)) → end ≡ other
split_same end other same = ap (end_or end) same

-- a slot that is ready, behind what settles and before it
settled_others : (slot : ℕ) (old mid new : Halves) → Settles old mid → OthersSettle slot mid new
    → OthersSettle slot old new
settled_others slot old mid new first rest other ne =
    view_then (view_at old other) (view_at mid other) (view_at new other) (first.views other) (rest other ne)

others_settled : (slot : ℕ) (old mid new : Halves) → OthersSettle slot old mid → Settles mid new
    → OthersSettle slot old new
others_settled slot old mid new first rest other ne =
    view_then (view_at old other) (view_at mid other) (view_at new other) (first other ne) (rest.views other)

newly_same : (own other : Option Ends) → own ≡ other → newly own ≡ newly other
newly_same own other same = ap {B = ℕ} newly same

none_newly : (own : Option Ends) → own ≡ None → newly own ≡ 1
none_newly own none = ap {B = ℕ} newly none

own_none : (lot : Option Lot) (accepted : List DataItem) → end_of lot ≡ None → own_of lot accepted ≡ None
own_none None accepted none = refl
own_none (Some Moved) accepted none = refl
own_none (Some (Split end)) accepted none = absurd (true≢false (ap is_some none))

-- it was split before
pub prepared_split : (slot : ℕ) (old new : Halves) (end : FrontEnd) → Settles old new
    → (view_at old slot).lot ≡ Some (Split end) → Prepared slot old new
prepared_split slot old new end settles is =
    let view = settles.views slot in
    let goes : LotSettles (Some (Split end)) (view_at new slot).lot =
    subst (λ (l : Option Lot). LotSettles l (view_at new slot).lot) is view.lot in
    let own : (part_of (view_at old slot)).own ≡ Some (ends_of end (view_at old slot).accepted) =
    ap (λ l. own_of l (view_at old slot).accepted) is in
    let none : newly (part_of (view_at old slot)).own ≡ 0 = ap {B = ℕ} newly own in
    let eased = eases (view_at old slot) (view_at new slot) view in
    let accepted = ap (λ (l : Load). l.accepted) settles.load in
    let admitted = ap (λ (l : Load). l.admitted) settles.load in
    let asked = ap (λ (l : Load). l.asked) settles.load in
    let control = settles.asked in
    record {
      others = λ other ne. settles.views other;
      sides = settles.sides;
      end = goes.0;
      lot = goes.1;
      admitted_as = subst (λ (o : Option Ends). IsAdmitted o (ends_of goes.0 (view_at new slot).accepted)) (sym own)
          (ends_settle end goes.0 (view_at old slot).accepted (view_at new slot).accepted goes.2 view.accepted);
      moved = eased.moved;
      parks = λ parks. inl (eased.parks parks);
      load_accepted = accepted;
      load_admitted = omega (arith, admitted, none);
      load_asked = omega (arith, asked, none);
      control_asked = omega (arith, control, none);
    }

-- it is split now
pub prepared_admits : (slot : ℕ) (old mid next new : Halves) (was is : SubscriberState) → Settles old mid
    → SlotAdmits slot was is mid next → Settles next new → Prepared slot old new
prepared_admits slot old mid next new was is first admits last =
    let view = last.views slot in
    let goes : LotSettles (Some (Split admits.end)) (view_at new slot).lot =
    subst (λ (l : Option Lot). LotSettles l (view_at new slot).lot) admits.lot view.lot in
    let before = eases (view_at old slot) (view_at mid slot) (first.views slot) in
    let after = eases (view_at next slot) (view_at new slot) view in
    let own : (part_of (view_at old slot)).own ≡ None =
    sym before.own ∙ own_none (view_at mid slot).lot (view_at mid slot).accepted admits.unsplit in
    let one = none_newly (part_of (view_at old slot)).own own in
    let ends : ends_of goes.0 (view_at new slot).accepted ≡ new_ends (commands_met was) was.packets =
    ends_settle admits.end goes.0 (view_at next slot).accepted (view_at new slot).accepted goes.2 view.accepted
    ∙ ends_new admits.end was (view_at next slot).accepted admits.started admits.none_sent admits.floors
    admits.accepted in
    let moved_next : (part_of (view_at next slot)).moved ≡ (part_of (view_at mid slot)).moved =
    ap (λ l. moved_by l (view_at next slot).moved) admits.lot ∙ admits.moved in
    let accepted_first = ap (λ (l : Load). l.accepted) first.load in
    let accepted_last = ap (λ (l : Load). l.accepted) last.load in
    let admitted_first = ap (λ (l : Load). l.admitted) first.load in
    let admitted_last = ap (λ (l : Load). l.admitted) last.load in
    let asked_first = ap (λ (l : Load). l.asked) first.load in
    let asked_last = ap (λ (l : Load). l.asked) last.load in
    let control_first = first.asked in
    let control_last = last.asked in
    let load_accepted = admits.load_accepted in
    let load_admitted = admits.load_admitted in
    let asked = admits.asked in
    let control = admits.control_asked in
    record {
      others = others_settled slot old next new (settled_others slot old mid next first admits.others) last;
      sides = sides_then old mid new first.sides (sides_then mid next new admits.sides last.sides);
      end = goes.0;
      lot = goes.1;
      admitted_as = subst (λ (o : Option Ends). IsAdmitted o (ends_of goes.0 (view_at new slot).accepted)) (sym own)
          (commands_met was, was.packets, ends);
      moved = after.moved ∙ moved_next ∙ before.moved;
      parks = λ parks.
          let now = after.parks parks in
          inr (
            own,
            sym (moved_next ∙ before.moved) ∙ ap (λ l. moved_by l (view_at next slot).moved) admits.lot
                ∙ admits.parks now,
          );
      load_accepted = omega (arith, accepted_first, accepted_last, load_accepted);
      load_admitted = omega (arith, admitted_first, admitted_last, load_admitted, one);
      load_asked = omega (arith, asked_first, asked_last, asked, one);
      control_asked = omega (arith, control_first, control_last, control, one);
    }

-- a lot that settled was split before where it is now
split_back : (old new : Option Lot) (end : FrontEnd) → LotSettles old new → new ≡ Some (Split end)
    → (was : FrontEnd) × (old ≡ Some (Split was))
split_back None new end settles is = absurd (true≢false (sym (ap is_some (sym settles ∙ is))))
split_back (Some Moved) new end settles is =
    absurd (true≢false (sym (ap (λ l. is_some (end_of l)) (sym settles ∙ is))))
split_back (Some (Split was)) new end settles is = (was, refl)

pub prepared : (slot : ℕ) (old mid next new : Halves) (was is : SubscriberState) → Settles old mid
    → IsReady slot was is mid next → Settles next new → Prepared slot old new
prepared slot old mid next new was is first (inr admits) last =
    prepared_admits slot old mid next new was is first admits last
prepared slot old mid next new was is first (inl split) last =
    let whole = settles_then old mid new first (settles_then mid next new split.settles last) in
    let back = split_back (view_at old slot).lot (view_at mid slot).lot split.end (first.views slot).lot split.lot in
    prepared_split slot old new back.0 whole back.1

-- what was given to a slot that is ready
pub commands_so : (room slot line : ℕ) (c : CommandKind) (old mid new : Halves) → Prepared slot old mid
    → Commanded slot line c mid new → Commands room slot c true (parts_of old) (parts_of new) (load_of old) (load_of new)
commands_so room slot line c old mid new ready does =
    let same : ready.end ≡ does.end = split_same ready.end does.end (sym ready.lot ∙ does.was) in
    let accepted = ap (λ (l : Load). l.accepted) does.load in
    let admitted = ap (λ (l : Load). l.admitted) does.load in
    let asked = ap (λ (l : Load). l.asked) does.load in
    let accepted_was = ready.load_accepted in
    let admitted_was = ready.load_admitted in
    let asked_was = ready.load_asked in
    record {
      others = λ other ne.
          eases (view_at old other) (view_at new other)
          (view_then (view_at old other) (view_at mid other) (view_at new other) (ready.others other ne)
          (does.others other ne));
      ends = ends_of ready.end (view_at mid slot).accepted;
      admitted_as = ready.admitted_as;
      accepted_as = λ yes.
          ap (λ l. own_of l (view_at new slot).accepted) does.is
          ∙ ap Some (ends_sends line c does.end does.after (view_at mid slot).accepted (view_at new slot).accepted
          does.sends does.accepted
          ∙ ap (λ e. with_command c (ends_of e (view_at mid slot).accepted)) (sym same));
      refused_as = λ no. absurd (true≢false no);
      moved = ap (λ l. moved_by l (view_at new slot).moved) does.is ∙ does.moved
          ∙ sym (ap (λ l. moved_by l (view_at mid slot).moved) ready.lot) ∙ ready.moved;
      parks = λ parks. ready.parks (sym does.parks ∙ parks);
      accepted = omega (arith, accepted, accepted_was);
      admitted = omega (arith, admitted, admitted_was);
      asked = omega (arith, asked, asked_was);
    }

pub commands_full : (room slot : ℕ) (c : CommandKind) (old new : Halves) → Prepared slot old new
    → (full : CommandsFull slot new) → (sender_lane full.end.lane).room ≡ room
    → Commands room slot c false (parts_of old) (parts_of new) (load_of old) (load_of new)
commands_full room slot c old new ready full rooms =
    let same : ready.end ≡ full.end = split_same ready.end full.end (sym ready.lot ∙ full.lot) in
    let many = length-map (commands_sent full.end) (λ (c : CommandItem). c.command) in
    let most = full.full in
    let enough : room ≤ length (ends_of full.end (view_at new slot).accepted).commands = omega (arith, many, most, rooms) in
    let accepted_was = ready.load_accepted in
    let admitted_was = ready.load_admitted in
    let asked_was = ready.load_asked in
    record {
      others = λ other ne. eases (view_at old other) (view_at new other) (ready.others other ne);
      ends = ends_of ready.end (view_at new slot).accepted;
      admitted_as = ready.admitted_as;
      accepted_as = λ yes. absurd (true≢false (sym yes));
      refused_as = λ no. (
        ap (λ l. own_of l (view_at new slot).accepted) ready.lot,
        subst (λ e. room ≤ length (ends_of e (view_at new slot).accepted).commands) (sym same) enough,
      );
      moved = ready.moved;
      parks = ready.parks;
      accepted = accepted_was;
      admitted = admitted_was;
      asked = omega (arith, asked_was);
    }

pub packets_so : (room lane slot line : ℕ) (packet : Packet) (parked : Bool) (old mid new : Halves)
    → Prepared slot old mid → Received slot line packet parked mid new
    → Packets room lane slot (lent_of packet) true parked (parts_of old) (parts_of new) (load_of old) (load_of new)
packets_so room lane slot line packet parked old mid new ready does =
    let same : ready.end ≡ does.end = split_same ready.end does.end (sym ready.lot ∙ does.was) in
    let accepted = does.load_accepted in
    let admitted = does.load_admitted in
    let asked = does.load_asked in
    let accepted_was = ready.load_accepted in
    let admitted_was = ready.load_admitted in
    let asked_was = ready.load_asked in
    record {
      others = λ other ne.
          eases (view_at old other) (view_at new other)
          (view_then (view_at old other) (view_at mid other) (view_at new other) (ready.others other ne)
          (does.others other ne));
      ends = ends_of ready.end (view_at mid slot).accepted;
      admitted_as = ready.admitted_as;
      accepted_as = λ yes. (
        ap (λ l. own_of l (view_at new slot).accepted) does.is
            ∙ ap Some (ends_accepts line packet does.item does.end does.after (view_at mid slot).accepted
            (view_at new slot).accepted does.accepts does.made does.accepted
            ∙ ap (λ e. with_packet (lent_of packet) (ends_of e (view_at mid slot).accepted)) (sym same)),
        λ is. ready.parks (sym does.parked_is ∙ is),
        λ now. sym does.parks ∙ now,
        omega (arith, accepted, accepted_was),
        omega (arith, asked, asked_was),
      );
      refused_as = λ no. absurd (true≢false no);
      moved = ap (λ l. moved_by l (view_at new slot).moved) does.is ∙ does.moved
          ∙ sym (ap (λ l. moved_by l (view_at mid slot).moved) ready.lot) ∙ ready.moved;
      admitted = omega (arith, admitted, admitted_was);
    }

pub packets_full : (room lane slot : ℕ) (p : LentPacket) (old mid new : Halves) → Prepared slot old mid → Settles mid new
    → AreLanes lane mid → (both mid).queue_room ≡ room → PacketsFull slot mid new
    → Packets room lane slot p false false (parts_of old) (parts_of new) (load_of old) (load_of new)
packets_full room lane slot p old mid new ready settles lanes rooms full =
    let eased = eases (view_at mid slot) (view_at new slot) (settles.views slot) in
    let many = length-map (view_at mid slot).accepted (λ (item : DataItem). lent_of item.packet) in
    let accepted = ap (λ (l : Load). l.accepted) settles.load in
    let admitted = ap (λ (l : Load). l.admitted) settles.load in
    let asked = ap (λ (l : Load). l.asked) settles.load in
    let accepted_was = ready.load_accepted in
    let admitted_was = ready.load_admitted in
    let asked_was = ready.load_asked in
    let cause : LaneWasFull lane (load_of new) ⊎ (MayPark (part_of (view_at old slot))
    × (room ≤ length (ends_of ready.end (view_at mid slot).accepted).packets)) =
    elim (full lane lanes) [
      | inl lane_full ↦ inl lane_full
      | inr queue_full ↦ let most = queue_full.1 in inr (ready.parks queue_full.0, omega (arith, most, many, rooms))
    ] in
    record {
      others = λ other ne.
          eases (view_at old other) (view_at new other)
          (view_then (view_at old other) (view_at mid other) (view_at new other) (ready.others other ne)
          (settles.views other));
      ends = ends_of ready.end (view_at mid slot).accepted;
      admitted_as = ready.admitted_as;
      accepted_as = λ yes. absurd (true≢false (sym yes));
      refused_as = λ no. (
        eased.own ∙ ap (λ l. own_of l (view_at mid slot).accepted) ready.lot,
        λ parks. ready.parks (eased.parks parks),
        omega (arith, accepted, accepted_was),
        omega (arith, asked, asked_was),
        cause,
      );
      moved = eased.moved ∙ ready.moved;
      admitted = omega (arith, admitted, admitted_was);
    }

-- a slot moved, or nothing came of it
pub goes_so : {slice : ℕ} (slot : ℕ) (old mid new : Halves) → Settles old mid → SlotMoves slot slice mid new
    → ((end : FrontEnd) → (view_at mid slot).lot ≡ Some (Split end) → AreAccepted end (view_at mid slot).accepted)
    → Goes slot (parts_of old) (parts_of new) (load_of old) (load_of new)
goes_so slot old mid new first moves are =
    let before = eases (view_at old slot) (view_at mid slot) (first.views slot) in
    let accepted = ap (λ (l : Load). l.accepted) first.load in
    let admitted = ap (λ (l : Load). l.admitted) first.load in
    let asked = ap (λ (l : Load). l.asked) first.load in
    let accepted_now = moves.load_accepted in
    let admitted_now = moves.load_admitted in
    let asked_now = moves.asked in
    record {
      others = λ other ne.
          eases (view_at old other) (view_at new other)
          (view_then (view_at old other) (view_at mid other) (view_at new other) (first.views other)
          (moves.others other ne));
      own = own_moves (view_at mid slot).lot (view_at new slot).lot (view_at mid slot).accepted
          (view_at new slot).accepted moves.lot moves.accepted are
          ∙ ap (option_map {T = Ends} {U = Ends} moved_on) before.own;
      moved = moves.moved;
      accepted = omega (arith, accepted, accepted_now);
      admitted = omega (arith, admitted, admitted_now);
      asked = omega (arith, asked, asked_now);
    }
