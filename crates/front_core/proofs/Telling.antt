-- What is told of a slot whose subscriber was split is right.
use Rattle.std.proofs.Common.{◌≡◌, ℕ, suc, ◌+◌, ◌-◌, ◌≤◌, Bool, true, false, true≢false, ◌&&◌, nat_le, List, [], ◌∷◌, length, map, take, refl, sym, ap, subst, ◌∙◌, arith}
use Rattle.std.specs.Prelude.{All}
use Rattle.std.specs.List.{AllZip}
use Rattle.std.proofs.lemmas.Bool.{leb-true}
use Rattle.std.proofs.lemmas.List.{length-map, take-map}
use Rattle.std.proofs.lemmas.List.Elements.{All-cons, All-map, All-head, All-nil, All-tail}
use Rattle.gate_model.specs.Events.{FewEvents, commands_of, packets_of}
use Rattle.gate_model.specs.SlotPast.{records_after}
use Rattle.gate_model.specs.declared.event.Event.{Event}
use Rattle.lawful_run.specs.Accepted.{Placed, command_count, commands_accepted, packets_accepted}
use Rattle.lawful_run.specs.Bounds.{Rises}
use Rattle.lawful_run.specs.LinesTold.{LineTold}
use Rattle.lawful_run.specs.Merging.{merged}
use Rattle.lawful_run.specs.Outcomes as made_of
use Rattle.lawful_run.specs.Telling.{counted}
use Rattle.subscriber.specs.Standing.{Represents, StandsFor, commands_met}
use Rattle.control_half.specs.declared.items.CommandItem.{CommandItem}
use Rattle.counter_half.specs.Handled.{Handled, note_of, noted, Note}
use Rattle.counter_half.specs.Interleaved.{rises}
use Rattle.counter_half.specs.declared.items.DataItem.{DataItem}
use Rattle.counter_half.specs.declared.items.PacketDone.{PacketDone}
use Rattle.lawful_run.specs.Filling.{Met, Replied}
use Rattle.lawful_run.specs.Floors.{command_floors, packet_floors}
use Rattle.lawful_run.specs.Joined as joined
use Rattle.lawful_run.specs.Joined.{MeetsFloors, SlotTold, counts_met}
use Rattle.front_core.specs.Kept.{EndsTold}
use Rattle.split_record.specs.Accepted.{AreNumbered}
use Rattle.split_record.specs.Finishing.{AreBounded, Comes, counts_told, events_told, handled_as}
use Rattle.split_record.specs.Joined as split_joined
use Rattle.split_record.specs.Rejoined.{AreAccepted, Finishes, commands_sent, start_of}
use Rattle.split_record.specs.declared.finishing.Finished.{Finished}
use Rattle.split_record.specs.declared.front.FrontEnd.{FrontEnd}
use Rattle.split_record.proofs.Joins.{events_are}
use Rattle.front_core.specs.Views.{ends_of, lent_of}
use Rattle.front_core.specs.Filled.{met_so, replied_so}

map_map : {X Y Z : Type 0} (f : Y → Z) (g : X → Y) (xs : List X) → map f (map g xs) ≡ map (λ x. f (g x)) xs
map_map f g [] = refl
map_map f g (x ∷ xs) = ap (λ zs. f (g x) ∷ zs) (map_map f g xs)

both_true : (x y : Bool) → (x && y) ≡ true → (x ≡ true) × (y ≡ true)
both_true true y is = (refl, is)
both_true false y is = absurd (true≢false (sym is))

-- counts that rise
all_rise : (least most : ℕ) (counts : List ℕ) → rises least most counts ≡ true → Rises least counts
all_rise least most [] rise = tt
all_rise least most (count ∷ counts) rise =
    let both = both_true (nat_le least count) (rises count most counts) rise in
    (leb-true least count both.0, all_rise count most counts both.1)

least_below : (least most : ℕ) (counts : List ℕ) → rises least most counts ≡ true → least ≤ most
least_below least most [] rise = leb-true least most rise
least_below least most (count ∷ counts) rise =
    let both = both_true (nat_le least count) (rises count most counts) rise in
    let first = leb-true least count both.0 in
    let later = least_below count most counts both.1 in
    omega (arith, first, later)

-- each packet, with its item and its note
abbrev counts_of : List PacketDone → List ℕ
counts_of notes = counts_told notes

first_note : (item : DataItem) (done : PacketDone) (items : List DataItem) (notes : List PacketDone)
    → map noted (done ∷ notes) ≡ map note_of (handled_as (item ∷ items) (counts_told (done ∷ notes)))
    → (done.number ≡ item.number) × (map noted notes ≡ map note_of (handled_as items (counts_told notes)))
first_note item done items notes same =
    let here : noted done ≡ note_of (item, done.commands) = cc in
    let rest : map noted notes ≡ map note_of (handled_as items (counts_told notes)) = cc in
    (ap (λ (n : Note). n.number) here, rest)

no_note : {X : Type 0} (item : DataItem) (items : List DataItem)
    → map noted [] ≡ map note_of (handled_as (item ∷ items) []) → X
no_note item items same = absurd (let no : ⊥ = cc in no)

no_item : {X : Type 0} (done : PacketDone) (notes : List PacketDone)
    → map noted (done ∷ notes) ≡ map note_of (handled_as [] (counts_told (done ∷ notes))) → X
no_item done notes same = absurd (let no : ⊥ = cc in no)

-- packets are numbered on
told_numbers : (slot number : ℕ) (items : List DataItem) (notes : List PacketDone) → AreNumbered slot number items
    → map noted notes ≡ map note_of (handled_as items (counts_told notes))
    → map (λ (m : Met). m.number) (map met_so notes) ≡ counted number (length items)
told_numbers slot number [] [] are same = refl
told_numbers slot number [] (done ∷ notes) are same = no_item done notes same
told_numbers slot number (item ∷ items) [] are same = no_note item items same
told_numbers slot number (item ∷ items) (done ∷ notes) are same =
    let parts = first_note item done items notes same in
    let rest = told_numbers slot (number + 1) items notes are.3 parts.1 in
    let here : done.number ≡ number = parts.0 ∙ are.1 in
    λ i. here i ∷ rest i

abbrev IsBounded : ℕ → List CommandItem → Handled → Type 0
IsBounded first commands h = (h.0.floor ≤ h.1) × All (λ (c : CommandItem). c.floor ≤ h.0.number)
    (take (h.1 - first) commands)

first_bounded : (first : ℕ) (commands : List CommandItem) (item : DataItem) (done : PacketDone) (items : List DataItem)
    (notes : List PacketDone) → AreBounded first commands (handled_as (item ∷ items) (counts_told (done ∷ notes)))
    → IsBounded first commands (item, done.commands)
    × AreBounded first commands (handled_as items (counts_told notes))
first_bounded first commands item done items notes bounded =
    let here : Handled = (item, done.commands) in (
      All-head (IsBounded first commands) here (handled_as items (counts_told notes)) bounded,
      All-tail (IsBounded first commands) here (handled_as items (counts_told notes)) bounded,
    )

-- each meets its floor, and the commands that it meets meet theirs
told_least : (first : ℕ) (commands : List CommandItem) (items : List DataItem) (notes : List PacketDone)
    → map noted notes ≡ map note_of (handled_as items (counts_told notes))
    → AreBounded first commands (handled_as items (counts_told notes))
    → AllZip (λ (floor : ℕ) (met : Met). floor ≤ met.commands) (map (λ (i : DataItem). i.floor) items)
    (map met_so notes)
told_least first commands [] [] same bounded = tt
told_least first commands [] (done ∷ notes) same bounded = no_item done notes same
told_least first commands (item ∷ items) [] same bounded = no_note item items same
told_least first commands (item ∷ items) (done ∷ notes) same bounded =
    let parts = first_note item done items notes same in
    let bounds = first_bounded first commands item done items notes bounded in
    (bounds.0.0, told_least first commands items notes parts.1 bounds.1)

floors_taken : (n number : ℕ) (commands : List CommandItem)
    → All (λ (c : CommandItem). c.floor ≤ number) (take n commands)
    → All (λ (floor : ℕ). floor ≤ number) (take n (map (λ (c : CommandItem). c.floor) commands))
floors_taken n number commands all =
    subst (All (λ (floor : ℕ). floor ≤ number)) (sym (take-map (λ (c : CommandItem). c.floor) n commands))
    (All-map (λ (floor : ℕ). floor ≤ number) (λ (c : CommandItem). c.floor) (take n commands) all)

told_most : (first least : ℕ) (commands : List CommandItem) (items : List DataItem) (notes : List PacketDone)
    → map noted notes ≡ map note_of (handled_as items (counts_told notes))
    → rises least (first + length commands) (counts_told notes) ≡ true
    → AreBounded first commands (handled_as items (counts_told notes))
    → All (MeetsFloors first (map (λ (c : CommandItem). c.floor) commands)) (map met_so notes)
told_most first least commands [] [] same rise bounded = All-nil _
told_most first least commands [] (done ∷ notes) same rise bounded = no_item done notes same
told_most first least commands (item ∷ items) [] same rise bounded = no_note item items same
told_most first least commands (item ∷ items) (done ∷ notes) same rise bounded =
    let parts = first_note item done items notes same in
    let both = both_true (nat_le least done.commands) (rises done.commands (first + length commands) (counts_told notes))
    rise in
    let top = least_below done.commands (first + length commands) (counts_told notes) both.1 in
    let many = length-map commands (λ (c : CommandItem). c.floor) in
    let bounds = first_bounded first commands item done items notes bounded in
    let here : All (λ (c : CommandItem). c.floor ≤ item.number) (take (done.commands - first) commands) =
    bounds.0.1 in
    All-cons (MeetsFloors first (map (λ (c : CommandItem). c.floor) commands)) (met_so done) (map met_so notes) (
      omega (arith, top, many),
      floors_taken (done.commands - first) done.number commands
          (subst (λ (n : ℕ). All (λ (c : CommandItem). c.floor ≤ n) (take (done.commands - first) commands))
          (sym parts.0) here),
    )
    (told_most first done.commands commands items notes parts.1 both.1 bounds.1)

length_handled : (items : List DataItem) (counts : List ℕ) → length (handled_as items counts) ≡ length items
length_handled [] counts = refl
length_handled (item ∷ items) [] = ap suc (length_handled items [])
length_handled (item ∷ items) (count ∷ counts) = ap suc (length_handled items counts)

-- two words for packets with counts agree, where there is a count for each
same_counts : (counts : List ℕ) (packets : List Placed) → length counts ≡ length packets
    → joined.with_counts counts packets ≡ split_joined.with_counts counts packets
same_counts [] [] same = refl
same_counts [] (p ∷ packets) same = absurd (omega (arith, same))
same_counts (count ∷ counts) [] same = refl
same_counts (count ∷ counts) (p ∷ packets) same =
    ap (λ (l : List Placed). record { commands = count; packet = p.packet } ∷ l)
    (same_counts counts packets (omega (arith, same)))

-- the packets of the items are those of the lines
told_packets : (slot number : ℕ) (items : List DataItem) (placed : List Placed) → AreNumbered slot number items
    → map (λ (i : DataItem). lent_of i.packet) items ≡ map (λ (p : Placed). p.packet) placed
    → map (λ (i : DataItem). i.packet) items ≡ split_joined.numbered_from number placed
told_packets slot number [] [] are same = refl
told_packets slot number [] (p ∷ placed) are same = absurd (let no : ⊥ = cc in no)
told_packets slot number (item ∷ items) [] are same = absurd (let no : ⊥ = cc in no)
told_packets slot number (item ∷ items) (p ∷ placed) are same =
    let here : lent_of item.packet ≡ p.packet = cc in
    let rest : map (λ (i : DataItem). lent_of i.packet) items ≡ map (λ (q : Placed). q.packet) placed = cc in
    let later = told_packets slot (number + 1) items placed are.3 rest in
    let own = are.2 in
    λ i. record {
      number = own i;
      moment = (here i).moment;
      way = (here i).way;
      octets = (here i).ip;
    } ∷ later i

-- the subscriber at the split represents what it represented before, wherever it was bound for
pub start_stands : (end : FrontEnd) (slot : ℕ) (before : List Event) (taken : ℕ)
    → StandsFor end.started.value slot before taken → StandsFor (start_of end) slot before taken
start_stands end slot before taken stands = record {
  session = stands.session;
  version = stands.version;
  counters = stands.counters;
  commands = stands.commands;
  packets = stands.packets;
}

module _ (slot : ℕ) (before : List Event) (told : List LineTold) (end : FrontEnd) (items : List DataItem)
    (finished : Finished) (ends : EndsTold slot (ends_of end items) told)
    (stood : Represents end.started.value slot before) (are : AreAccepted end items)
    (finishes : Finishes (start_of end) (commands_sent end) items end.destination finished)
    (few : FewEvents (length before + length (commands_sent end) + length items)) where
  abbrev pub mets : List Met
  mets = map met_so finished.packets.items

  pub slot_came : Comes (start_of end) slot before (length (records_after slot before)) (commands_sent end) items finished.record
      finished.commands.items finished.packets.items finished.effects.items finished.rows.items
  slot_came = finishes.comes slot before (length (records_after slot before))
      (start_stands end slot before (length (records_after slot before)) stood) few

  counts_are : counts_met mets ≡ counts_told finished.packets.items
  counts_are = map_map (λ (m : Met). m.commands) met_so finished.packets.items

  note_count : length finished.packets.items ≡ length items
  note_count =
      let same = ap length finishes.notes.items_noted in
      let notes = length-map finished.packets.items noted in
      let handled = length-map (handled_as items (counts_told finished.packets.items)) note_of in
      let all = length_handled items (counts_told finished.packets.items) in
      omega (arith, same, notes, handled, all)

  placed_count : length items ≡ length (packets_accepted slot told)
  placed_count =
      let same = ap length ends.packets_are in
      let left = length-map items (λ (i : DataItem). lent_of i.packet) in
      let right = length-map (packets_accepted slot told) (λ (p : Placed). p.packet) in
      omega (arith, same, left, right)

  -- the events that the halves tell are those that were joined
  pub events_same : events_told (start_of end) (commands_sent end) items finished.packets.items
      ≡ joined.events_met slot before told mets
  events_same =
      let stands = start_stands end slot before (length (records_after slot before)) stood in
      let counts = length-map finished.packets.items (λ (d : PacketDone). d.commands) in
      let notes = note_count in
      let placed = placed_count in
      events_are (start_of end) slot before (length (records_after slot before)) told (commands_sent end) items
      finished.packets.items stands (record {
        commands_are = ends.commands_are;
        packets_are = told_packets end.slot (start_of end).packets items (packets_accepted slot told) are.numbered
            ends.packets_are;
      })
      ∙ ap (merged (length (commands_of before)) (length (packets_of before)) (commands_accepted slot told))
      (sym (same_counts (counts_told finished.packets.items) (packets_accepted slot told)
      (omega (arith, counts, notes, placed)))
      ∙ ap (λ (c : List ℕ). joined.with_counts c (packets_accepted slot told)) (sym counts_are))

  pub slot_told : SlotTold slot before told (map replied_so finished.commands.items) mets
  slot_told =
      let commands : length (commands_sent end) ≡ command_count slot told =
      sym (length-map (commands_sent end) (λ (c : CommandItem). c.command)) ∙ ap length ends.commands_are in
      record {
        numbers = map_map (λ (r : Replied). r.number) replied_so finished.commands.items
            ∙ finishes.notes.numbers ∙ (λ i. counted (stood.commands i) (commands i));
        packet_numbers = told_numbers end.slot (start_of end).packets items finished.packets.items are.numbered
            finishes.notes.items_noted
            ∙ (λ i. counted (stood.packets i) (placed_count i));
        rises = subst (Rises (length (commands_of before))) (sym counts_are)
            (subst (λ (n : ℕ). Rises n (counts_told finished.packets.items)) stood.commands
            (all_rise (commands_met (start_of end)) (commands_met (start_of end) + length (commands_sent end))
            (counts_told finished.packets.items) finishes.notes.rising));
        least = subst (λ (floors : List ℕ). AllZip (λ (floor : ℕ) (met : Met). floor ≤ met.commands) floors
            (map met_so finished.packets.items))
            (ends.packet_floors_are ∙ ap (λ (n : ℕ). packet_floors slot n [] told) stood.commands)
            (told_least (commands_met (start_of end)) (commands_sent end) items finished.packets.items
            finishes.notes.items_noted finishes.notes.bounded);
        most = subst (λ (n : ℕ). All (MeetsFloors n (command_floors slot (length (packets_of before)) [] told))
            (map met_so finished.packets.items)) stood.commands
            (subst (λ (floors : List ℕ). All (MeetsFloors (commands_met (start_of end)) floors)
            (map met_so finished.packets.items))
            (ends.command_floors_are ∙ ap (λ (n : ℕ). command_floors slot n [] told) stood.packets)
            (told_most (commands_met (start_of end)) (commands_met (start_of end)) (commands_sent end) items
            finished.packets.items finishes.notes.items_noted finishes.notes.rising finishes.notes.bounded));
        replies = map_map (λ (r : Replied). r.reply) replied_so finished.commands.items ∙ slot_came.replies_are
            ∙ ap (made_of.replies slot before) events_same;
        verdicts = map_map (λ (m : Met). m.verdict) met_so finished.packets.items ∙ slot_came.verdicts_are
            ∙ ap (made_of.verdicts slot before) events_same;
      }
