-- What is kept of the halves stays true.
use Rattle.std.proofs.Common.{◌≡◌, ◌≢◌, ℕ, ◌+◌, ◌-◌, ◌<◌, ◌≤◌, Bool, false, true≢false, is_some, unwrap_or, List, [], ◌∷◌, ◌++◌, length, map, refl, sym, ap, subst, ◌∙◌, arith, inl, inr, length-append}
use Rattle.std.specs.Prelude.{Option, Some, None, All, take}
use Rattle.std.proofs.lemmas.Bool.{cases_eq}
use Rattle.std.proofs.lemmas.List.Elements.{All-head, All-map, All-nil, All-push, All-tail, All-weaker}
use Rattle.std.proofs.lemmas.List.{map-append, take-append-le}
use Rattle.lane_core.specs.Ends.{Lane, sender_lane}
use Rattle.control_steps.specs.declared.command.CommandKind.{CommandKind}
use Rattle.pc_base.specs.declared.packet.Packet.{Packet}
use Rattle.worker_core.specs.Workers.{Lanes}
use Rattle.subscriber.specs.Standing.{SubscriberState, commands_met, last_of}
use Rattle.control_half.specs.Named as control_named
use Rattle.counter_half.specs.Named as data_named
use Rattle.control_half.specs.declared.items.CommandItem.{CommandItem}
use Rattle.counter_half.specs.declared.items.DataItem.{DataItem}
use Rattle.counter_half.specs.Tells.{AreLate}
use Rattle.split_record.specs.declared.front.FrontEnd.{FrontEnd}
use Rattle.split_record.specs.Accepted.{MayStand, AreNumbered}
use Rattle.split_record.specs.Rejoined.{AreAccepted, IsSameFront, IsItemOf, commands_sent, start_of}
use Rattle.front_core.specs.Kept.{Load}
use Rattle.front_core.specs.declared.lot.Lot.{Lot}
use Rattle.front_core.specs.declared.lot.Lot.TheVariants.{Moved, Split}
use Rattle.front_core.specs.declared.halves.Halves.{Halves}
use Rattle.front_core.specs.Lots.{EndMoved, EndSends, EndAccepts, LotSettles, LotMoves, end_of}
use Rattle.front_core.specs.Steps.{AreOneSplit, OthersSettle, ViewSettles, SidesKeep, Settles, SlotMoves, SlotAdmits, Commanded, Received}
use Rattle.front_core.specs.Views.{both, View, view_at, load_of}
use Rattle.front_core.specs.Keeping.{SplitKeeps, RestsHere, LotKeeps, ViewKeeps, HalvesKeep}
use Rattle.front_core.proofs.Bridging.{split_same}

-- a front end whose origin and lane are the same has halves of the same split
one_same : (end after : FrontEnd) (half : control_named.Named) (counter : data_named.Named) → IsSameFront end after
    → AreOneSplit end half counter → AreOneSplit after half counter
one_same end after half counter same one = record {
  session = one.session ∙ ap (λ s. s.value.session) (sym same.started);
  number = one.number ∙ ap (λ s. commands_met s.value) (sym same.started);
  commands = one.commands ∙ sym same.lane;
  versions = one.versions;
  started = one.started ∙ ap (λ s. record s.value { destination = 0 }) (sym same.started);
}

-- what was accepted stays so where no packet and no command was counted
accepted_same : (end after : FrontEnd) (items : List DataItem) → IsSameFront end after
    → commands_sent after ≡ commands_sent end → after.packets ≡ end.packets → AreAccepted end items
    → AreAccepted after items
accepted_same end after items same commands packets are = record {
  counted = packets ∙ are.counted ∙ ap (λ s. s.value.packets + length items) (sym same.started);
  numbered = subst (λ n. AreNumbered n (start_of after).packets items) (sym same.slot)
      (subst (λ n. AreNumbered end.slot n items) (ap (λ s. s.value.packets) (sym same.started)) are.numbered);
  standing = subst (λ n. All (MayStand n (commands_sent after)) items)
      (ap (λ s. commands_met s.value) (sym same.started))
      (subst (λ cs. All (MayStand (commands_met (start_of end)) cs) items) (sym commands) are.standing);
  late = subst (λ n. AreLate (unwrap_or n 0) (map (λ (i : DataItem). i.packet.moment) items))
      (ap (λ s. last_of s.value) (sym same.started)) are.late;
}

-- a split subscriber of which nothing was counted
split_still : (slot lines latest : ℕ) (end after : FrontEnd) (old new : View) → IsSameFront end after
    → commands_sent after ≡ commands_sent end → after.packets ≡ end.packets → after.hop ≡ end.hop
    → new.control ≡ old.control → new.data_half ≡ old.data_half → new.accepted ≡ old.accepted
    → SplitKeeps slot lines latest end old → SplitKeeps slot lines latest after new
split_still slot lines latest end after old new same commands packets hop control data_half accepted keeps =
    let sent = ap length commands in
    let many = ap length accepted in
    let few = keeps.few in
    let hops = keeps.hops_few in
    record {
      own = same.slot ∙ keeps.own;
      control_admitted = ap is_some control ∙ keeps.control_admitted;
      data_admitted = ap is_some data_half ∙ keeps.data_admitted;
      names = λ half counter here there.
          one_same end after half counter same
          (keeps.names half counter (sym control ∙ here) (sym data_half ∙ there));
      accepted = subst (AreAccepted after) (sym accepted)
          (accepted_same end after old.accepted same commands packets keeps.accepted);
      late = subst (All (λ (i : DataItem). i.packet.moment ≤ latest)) (sym accepted) keeps.late;
      late_start = subst (λ n. unwrap_or n 0 ≤ latest) (ap (λ s. last_of s.value) (sym same.started))
          keeps.late_start;
      few = omega (arith, sent, many, few);
      hops_few = omega (arith, hop, hops);
    }

rests_still : (old new : View) → new.control ≡ old.control → new.data_half ≡ old.data_half
    → (old.parks ≡ false → new.parks ≡ false) → RestsHere old → RestsHere new
rests_still old new control data_half parks rests = record {
  no_control = control ∙ rests.no_control;
  no_data = data_half ∙ rests.no_data;
  no_parks = parks rests.no_parks;
}

lot_keeps_settled : (slot lines latest : ℕ) (was is : Option Lot) (old new : View) → LotSettles was is
    → ViewSettles old new → LotKeeps slot lines latest was old → LotKeeps slot lines latest is new
lot_keeps_settled slot lines latest None is old new settles view keeps =
    subst (λ l. LotKeeps slot lines latest l new) (sym settles)
    (rests_still old new view.control view.data_half view.parks keeps)
lot_keeps_settled slot lines latest (Some Moved) is old new settles view keeps =
    subst (λ l. LotKeeps slot lines latest l new) (sym settles)
    (rests_still old new view.control view.data_half view.parks keeps)
lot_keeps_settled slot lines latest (Some (Split end)) is old new settles view keeps =
    subst (λ l. LotKeeps slot lines latest l new) (sym settles.1)
    (split_still slot lines latest end settles.0 old new settles.2.same settles.2.commands.0 settles.2.packets
    settles.2.hop view.control view.data_half view.accepted keeps)

pub view_keeps : (slot lines latest : ℕ) (old new : View) → ViewSettles old new → ViewKeeps slot lines latest old
    → ViewKeeps slot lines latest new
view_keeps slot lines latest old new settles keeps =
    lot_keeps_settled slot lines latest old.lot new.lot old new settles.lot settles keeps

-- behind more lines, the last of them later
split_later : (slot lines latest more later : ℕ) (end : FrontEnd) (view : View) → lines ≤ more → latest ≤ later
    → SplitKeeps slot lines latest end view → SplitKeeps slot more later end view
split_later slot lines latest more later end view le late keeps =
    let start = keeps.late_start in
    let few = keeps.few in
    let hops = keeps.hops_few in
    record {
      own = keeps.own;
      control_admitted = keeps.control_admitted;
      data_admitted = keeps.data_admitted;
      names = keeps.names;
      accepted = keeps.accepted;
      late = All-weaker (λ (i : DataItem). i.packet.moment ≤ latest) (λ (i : DataItem). i.packet.moment ≤ later)
          (λ i here. omega (arith, here, late)) view.accepted keeps.late;
      late_start = omega (arith, start, late);
      few = omega (arith, few, le);
      hops_few = omega (arith, hops, le);
    }

lot_later : (slot lines latest more later : ℕ) (lot : Option Lot) (view : View) → lines ≤ more → latest ≤ later
    → LotKeeps slot lines latest lot view → LotKeeps slot more later lot view
lot_later slot lines latest more later None view le late keeps = keeps
lot_later slot lines latest more later (Some Moved) view le late keeps = keeps
lot_later slot lines latest more later (Some (Split end)) view le late keeps =
    split_later slot lines latest more later end view le late keeps

pub view_later : (slot lines latest more later : ℕ) (view : View) → lines ≤ more → latest ≤ later
    → ViewKeeps slot lines latest view → ViewKeeps slot more later view
view_later slot lines latest more later view le late keeps =
    lot_later slot lines latest more later view.lot view le late keeps

lot_none : (was is : Option Lot) → LotSettles was is → was ≡ None → is ≡ None
lot_none None is settles none = settles
lot_none (Some lot) is settles none = absurd (true≢false (ap is_some none))

-- the room of a split subscriber's lane of commands
rooms_settled : (room : ℕ) (was is : Option Lot) → LotSettles was is
    → ((end : FrontEnd) → was ≡ Some (Split end) → (sender_lane end.lane).room ≡ room)
    → (end : FrontEnd) → is ≡ Some (Split end) → (sender_lane end.lane).room ≡ room
rooms_settled room None is settles rooms end split = absurd (true≢false (sym (ap is_some (sym settles ∙ split))))
rooms_settled room (Some Moved) is settles rooms end split =
    absurd (true≢false (sym (ap (λ l. is_some (end_of l)) (sym settles ∙ split))))
rooms_settled room (Some (Split was)) is settles rooms end split =
    let same : settles.0 ≡ end = split_same settles.0 end (sym settles.1 ∙ split) in
    ap (λ (e : FrontEnd). (sender_lane e.lane).room) (sym same)
    ∙ ap (λ (l : Lane). l.room) settles.2.same.lane ∙ rooms was refl

-- pumps and refused tries keep all
pub halves_settle : (slices room lane slots lines latest asks : ℕ) (old new : Halves) → Settles old new
    → HalvesKeep slices room lane slots lines latest asks old
    → HalvesKeep slices room lane slots lines latest asks new
halves_settle slices room lane slots lines latest asks old new settles keeps =
    let lots = settles.lots in
    let few = keeps.lots_few in
    let asked = ap (λ (l : Load). l.asked) settles.load in
    let asked_few = keeps.asked in
    let control = settles.asked in
    let control_few = keeps.control_asked in
    let lanes = ap length settles.sides.control_lanes in
    record {
      views = λ slot. view_keeps slot lines latest (view_at old slot) (view_at new slot) (settles.views slot)
          (keeps.views slot);
      within = λ slot past. lot_none (view_at old slot).lot (view_at new slot).lot (settles.views slot).lot
          (keeps.within slot past);
      lots_few = omega (arith, lots, few);
      controls_are = lanes ∙ keeps.controls_are;
      lanes_are = ap (map (λ (l : Lanes). l.0.room)) settles.sides.data_lanes ∙ keeps.lanes_are;
      queues_are = settles.sides.queues ∙ keeps.queues_are;
      room_is = settles.sides.room ∙ keeps.room_is;
      rooms = λ slot. rooms_settled room (view_at old slot).lot (view_at new slot).lot (settles.views slot).lot
          (keeps.rooms slot);
      control_asked = omega (arith, control, control_few);
      asked = omega (arith, asked, asked_few);
    }

-- more slots in the book, and more calls
pub halves_wider : (slices room lane slots more lines latest asks many : ℕ) (halves : Halves) → slots ≤ more
    → asks ≤ many → HalvesKeep slices room lane slots lines latest asks halves
    → HalvesKeep slices room lane more lines latest many halves
halves_wider slices room lane slots more lines latest asks many halves le few keeps =
    let lots = keeps.lots_few in
    let control = keeps.control_asked in
    let asked = keeps.asked in
    record {
      views = keeps.views;
      within = λ slot past. keeps.within slot (omega (arith, past, le));
      lots_few = omega (arith, lots, le);
      controls_are = keeps.controls_are;
      lanes_are = keeps.lanes_are;
      queues_are = keeps.queues_are;
      room_is = keeps.room_is;
      rooms = keeps.rooms;
      control_asked = omega (arith, control, few);
      asked = omega (arith, asked, few);
    }

-- more lines, the last of them later
pub halves_later : (slices room lane slots lines latest more later asks : ℕ) (halves : Halves) → lines ≤ more
    → latest ≤ later → HalvesKeep slices room lane slots lines latest asks halves
    → HalvesKeep slices room lane slots more later asks halves
halves_later slices room lane slots lines latest more later asks halves le late keeps = record {
  views = λ slot. view_later slot lines latest more later (view_at halves slot) le late (keeps.views slot);
  within = keeps.within;
  lots_few = keeps.lots_few;
  controls_are = keeps.controls_are;
  lanes_are = keeps.lanes_are;
  queues_are = keeps.queues_are;
  room_is = keeps.room_is;
  rooms = keeps.rooms;
  control_asked = keeps.control_asked;
  asked = keeps.asked;
}

-- each slot but one settles, and what is kept of that one is told
by_slot : (P : ℕ → Type 0) (slot : ℕ) → P slot → ((other : ℕ) → other ≢ slot → P other) → (other : ℕ) → P other
by_slot P slot own rest other = elim (cases_eq other slot) [
  | inl same ↦ subst P (sym same) own
  | inr ne ↦ rest other ne
]

-- a slot moved
lot_keeps_moved : (slot lines latest : ℕ) (was is : Option Lot) (old new : View) → LotMoves was is
    → new.control ≡ old.control → new.data_half ≡ old.data_half → new.accepted ≡ old.accepted
    → (end_of was ≡ None → new.parks ≡ old.parks) → LotKeeps slot lines latest was old
    → LotKeeps slot (lines + 1) latest is new
lot_keeps_moved slot lines latest None is old new moves control data_half accepted parks keeps =
    subst (λ l. LotKeeps slot (lines + 1) latest l new) (sym moves)
    (rests_still old new control data_half (λ rests. parks refl ∙ rests) keeps)
lot_keeps_moved slot lines latest (Some Moved) is old new moves control data_half accepted parks keeps =
    subst (λ l. LotKeeps slot (lines + 1) latest l new) (sym moves)
    (rests_still old new control data_half (λ rests. parks refl ∙ rests) keeps)
lot_keeps_moved slot lines latest (Some (Split end)) is old new moves control data_half accepted parks keeps =
    let after : FrontEnd = moves.0 in
    let goes : EndMoved end after = moves.2 in
    let sent = ap length goes.commands.0 in
    let many = ap length accepted in
    let few = keeps.few in
    let hop = goes.hop in
    let hops = keeps.hops_few in
    subst (λ l. LotKeeps slot (lines + 1) latest l new) (sym moves.1) (record {
      own = goes.same.slot ∙ keeps.own;
      control_admitted = ap is_some control ∙ keeps.control_admitted;
      data_admitted = ap is_some data_half ∙ keeps.data_admitted;
      names = λ half counter here there.
          one_same end after half counter goes.same
          (keeps.names half counter (sym control ∙ here) (sym data_half ∙ there));
      accepted = subst (AreAccepted after) (sym accepted)
          (accepted_same end after old.accepted goes.same goes.commands.0 goes.packets keeps.accepted);
      late = subst (All (λ (i : DataItem). i.packet.moment ≤ latest)) (sym accepted) keeps.late;
      late_start = subst (λ n. unwrap_or n 0 ≤ latest) (ap (λ s. last_of s.value) (sym goes.same.started))
          keeps.late_start;
      few = omega (arith, sent, many, few);
      hops_few = omega (arith, hop, hops);
    })

rooms_moved : (room : ℕ) (was is : Option Lot) → LotMoves was is
    → ((end : FrontEnd) → was ≡ Some (Split end) → (sender_lane end.lane).room ≡ room)
    → (end : FrontEnd) → is ≡ Some (Split end) → (sender_lane end.lane).room ≡ room
rooms_moved room None is moves rooms end split =
    absurd (true≢false (sym (ap (λ l. is_some (end_of l)) (sym moves ∙ split))))
rooms_moved room (Some Moved) is moves rooms end split =
    absurd (true≢false (sym (ap (λ l. is_some (end_of l)) (sym moves ∙ split))))
rooms_moved room (Some (Split was)) is moves rooms end split =
    let same : moves.0 ≡ end = split_same moves.0 end (sym moves.1 ∙ split) in
    ap (λ (e : FrontEnd). (sender_lane e.lane).room) (sym same)
    ∙ ap (λ (l : Lane). l.room) moves.2.same.lane ∙ rooms was refl

-- what is kept of all slots but one, which settle, and of that one
module _ (slices room lane slots lines latest more later asks many slot : ℕ) (old new : Halves)
    (others : OthersSettle slot old new) (sides : SidesKeep old new) (low : slot < slots)
    (lots : length new.lots.items ≤ slots) (le : lines ≤ more) (late : latest ≤ later)
    (keeps : HalvesKeep slices room lane slots lines latest asks old) where
  pub one_changes : ViewKeeps slot more later (view_at new slot)
      → ((end : FrontEnd) → (view_at new slot).lot ≡ Some (Split end) → (sender_lane end.lane).room ≡ room)
      → (both new).control_asked ≤ many → (load_of new).asked ≤ many
      → HalvesKeep slices room lane slots more later many new
  one_changes own rooms control asked = record {
    views = by_slot (λ other. ViewKeeps other more later (view_at new other)) slot own
        (λ other ne. view_later other lines latest more later (view_at new other) le late
        (view_keeps other lines latest (view_at old other) (view_at new other) (others other ne)
        (keeps.views other)));
    within = λ other past.
        lot_none (view_at old other).lot (view_at new other).lot
        (others other (λ same. omega (arith, past, low, same))).lot (keeps.within other past);
    lots_few = lots;
    controls_are = ap length sides.control_lanes ∙ keeps.controls_are;
    lanes_are = ap (map (λ (l : Lanes). l.0.room)) sides.data_lanes ∙ keeps.lanes_are;
    queues_are = sides.queues ∙ keeps.queues_are;
    room_is = sides.room ∙ keeps.room_is;
    rooms = by_slot (λ other. (end : FrontEnd) → (view_at new other).lot ≡ Some (Split end)
        → (sender_lane end.lane).room ≡ room) slot rooms
        (λ other ne. rooms_settled room (view_at old other).lot (view_at new other).lot (others other ne).lot
        (keeps.rooms other));
    control_asked = control;
    asked = asked;
  }

pub halves_move : {slice : ℕ} (slices room lane slots lines latest asks slot : ℕ) (old new : Halves)
    → SlotMoves slot slice old new
    → slot < slots → length new.lots.items ≤ slots
    → HalvesKeep slices room lane slots lines latest asks old
    → HalvesKeep slices room lane slots (lines + 1) latest (asks + 1) new
halves_move slices room lane slots lines latest asks slot old new moves low lots keeps =
    let asked = moves.asked in
    let asked_few = keeps.asked in
    let control = moves.control_asked in
    let control_few = keeps.control_asked in
    one_changes slices room lane slots lines latest (lines + 1) latest asks (asks + 1) slot old new moves.others
    moves.sides low lots (omega arith) (omega arith) keeps
    (lot_keeps_moved slot lines latest (view_at old slot).lot (view_at new slot).lot (view_at old slot)
    (view_at new slot) moves.lot moves.control moves.data_half moves.accepted moves.parks (keeps.views slot))
    (rooms_moved room (view_at old slot).lot (view_at new slot).lot moves.lot (keeps.rooms slot))
    (omega (arith, control, control_few)) (omega (arith, asked, asked_few))

-- moments that don't fall, with one more
late_push : (least latest moment : ℕ) (moments : List ℕ) → AreLate least moments
    → All (λ (m : ℕ). m ≤ latest) moments → least ≤ latest → latest ≤ moment → AreLate least (moments ++ moment ∷ [])
late_push least latest moment [] late below first last = (omega (arith, first, last), tt)
late_push least latest moment (m ∷ moments) late below first last = (
  late.0,
  late_push m latest moment moments late.1 (All-tail (λ (m : ℕ). m ≤ latest) m moments below)
      (All-head (λ (m : ℕ). m ≤ latest) m moments below) last,
)

numbered_push : (slot number : ℕ) (items : List DataItem) (item : DataItem) → AreNumbered slot number items
    → item.slot ≡ slot → item.number ≡ number + length items → item.packet.number ≡ number + length items
    → AreNumbered slot number (items ++ item ∷ [])
numbered_push slot number [] item are own is packet = (
  own,
  (let here = is in omega (arith, here)),
  (let here = packet in omega (arith, here)),
  tt,
)
numbered_push slot number (first ∷ items) item are own is packet = (
  are.0,
  are.1,
  are.2,
  numbered_push slot (number + 1) items item are.3 own (omega (arith, is)) (omega (arith, packet)),
)

-- commands more leave room for the items that stand among those before
take_front : {X : Type 0} (n : ℕ) (xs ys : List X) → n ≤ length xs → take n (xs ++ ys) ≡ take n xs
take_front n xs ys le = take-append-le n xs ys le

stands_more : (first : ℕ) (commands : List CommandItem) (more : List CommandItem) (item : DataItem)
    → MayStand first commands item → MayStand first (commands ++ more) item
stands_more first commands more item stands =
    let floor = stands.floor in
    let many = length-append commands more in
    record {
      floor = omega (arith, floor, many);
      below = subst (All (λ (c : CommandItem). c.floor ≤ item.number))
          (sym (take_front (item.floor - first) commands more (omega (arith, floor)))) stands.below;
    }

-- a command was sent, and an item was accepted
accepted_sends : (line : ℕ) (c : CommandKind) (end after : FrontEnd) (items : List DataItem)
    → EndSends line c end after → AreAccepted end items → AreAccepted after items
accepted_sends line c end after items sends are =
    let one : CommandItem = record {
      number = end.commands;
      hop = end.hop;
      floor = end.packets_before;
      line = line;
      command = c;
    } in
    record {
      counted = sends.packets ∙ are.counted ∙ ap (λ s. s.value.packets + length items) (sym sends.same.started);
      numbered = subst (λ n. AreNumbered n (start_of after).packets items) (sym sends.same.slot)
          (subst (λ n. AreNumbered end.slot n items) (ap (λ s. s.value.packets) (sym sends.same.started)) are.numbered);
      standing = subst (λ n. All (MayStand n (commands_sent after)) items)
          (ap (λ s. commands_met s.value) (sym sends.same.started))
          (subst (λ cs. All (MayStand (commands_met (start_of end)) cs) items) (sym sends.sends.sent_is)
          (All-weaker (MayStand (commands_met (start_of end)) (commands_sent end))
          (MayStand (commands_met (start_of end)) (commands_sent end ++ one ∷ []))
          (λ item stands. stands_more (commands_met (start_of end)) (commands_sent end) (one ∷ []) item stands) items
          are.standing));
      late = subst (λ n. AreLate (unwrap_or n 0) (map (λ (i : DataItem). i.packet.moment) items))
          (ap (λ s. last_of s.value) (sym sends.same.started)) are.late;
    }

-- what is kept of a split subscriber
pub split_keeps : (slot lines latest : ℕ) (end : FrontEnd) (view : View) → view.lot ≡ Some (Split end)
    → ViewKeeps slot lines latest view → SplitKeeps slot lines latest end view
split_keeps slot lines latest end view is keeps = subst (λ (l : Option Lot). LotKeeps slot lines latest l view) is keeps

view_split : (slot lines latest : ℕ) (end : FrontEnd) (view : View) → view.lot ≡ Some (Split end)
    → SplitKeeps slot lines latest end view → ViewKeeps slot lines latest view
view_split slot lines latest end view is keeps =
    subst (λ (l : Option Lot). LotKeeps slot lines latest l view) (sym is) keeps

rooms_one : (room : ℕ) (lot : Option Lot) (end : FrontEnd) → lot ≡ Some (Split end)
    → (sender_lane end.lane).room ≡ room → (other : FrontEnd) → lot ≡ Some (Split other)
    → (sender_lane other.lane).room ≡ room
rooms_one room lot end is same other split =
    ap (λ (e : FrontEnd). (sender_lane e.lane).room) (split_same other end (sym split ∙ is)) ∙ same

-- one that was split now: nothing was accepted yet
split_new : (slot lines latest : ℕ) (was is : SubscriberState) (old new : Halves)
    → (admits : SlotAdmits slot was is old new) → unwrap_or (last_of was) 0 ≤ latest
    → SplitKeeps slot lines latest admits.end (view_at new slot)
split_new slot lines latest was is old new admits late =
    let none = ap length admits.none_sent in
    let nothing = ap length admits.accepted in
    let hop = admits.hop in
    record {
      own = admits.own;
      control_admitted = ap is_some admits.control;
      data_admitted = ap is_some admits.data_half;
      names = λ half counter here there.
          let half_is : admits.half ≡ half = (let both_are = sym admits.control ∙ here in cc) in
          let counter_is : admits.counter ≡ counter = (let both_are = sym admits.data_half ∙ there in cc) in
          subst (λ (h : control_named.Named). AreOneSplit admits.end h counter) half_is
          (subst (AreOneSplit admits.end admits.half) counter_is admits.one);
      accepted = subst (AreAccepted admits.end) (sym admits.accepted) (record {
        counted = admits.counts.1 ∙ ap (λ (s : SubscriberState). s.packets) (sym admits.started) ∙ omega arith;
        numbered = tt;
        standing = All-nil (MayStand (commands_met (start_of admits.end)) (commands_sent admits.end));
        late = tt;
      });
      late = subst (All (λ (i : DataItem). i.packet.moment ≤ latest)) (sym admits.accepted)
          (All-nil (λ (i : DataItem). i.packet.moment ≤ latest));
      late_start = subst (λ (s : SubscriberState). unwrap_or (last_of s) 0 ≤ latest) (sym admits.started) late;
      few = omega (arith, none, nothing);
      hops_few = omega (arith, hop);
    }

pub halves_admit : (slices room lane slots lines latest asks slot : ℕ) (was is : SubscriberState) (old new : Halves)
    → SlotAdmits slot was is old new → slot < slots → length new.lots.items ≤ slots
    → unwrap_or (last_of was) 0 ≤ latest → HalvesKeep slices room lane slots lines latest asks old
    → HalvesKeep slices room lane slots lines latest (asks + 1) new
halves_admit slices room lane slots lines latest asks slot was is old new admits low lots late keeps =
    let asked = admits.asked in
    let asked_few = keeps.asked in
    let control = admits.control_asked in
    let control_few = keeps.control_asked in
    let rooms : (sender_lane admits.end.lane).room ≡ room = admits.lane_room ∙ keeps.room_is in
    one_changes slices room lane slots lines latest lines latest asks (asks + 1) slot old new admits.others
    admits.sides low lots (omega arith) (omega arith) keeps
    (view_split slot lines latest admits.end (view_at new slot) admits.lot
    (split_new slot lines latest was is old new admits late))
    (rooms_one room (view_at new slot).lot admits.end admits.lot rooms)
    (omega (arith, control, control_few)) (omega (arith, asked, asked_few))

-- a command more
split_sends : (slot lines latest line : ℕ) (c : CommandKind) (end after : FrontEnd) (old new : View)
    → EndSends line c end after → new.control ≡ old.control → new.data_half ≡ old.data_half → new.accepted ≡ old.accepted
    → SplitKeeps slot lines latest end old → SplitKeeps slot (lines + 1) latest after new
split_sends slot lines latest line c end after old new sends control data_half accepted keeps =
    let one : CommandItem = record {
      number = end.commands;
      hop = end.hop;
      floor = end.packets_before;
      line = line;
      command = c;
    } in
    let sent = ap length sends.sends.sent_is ∙ length-append (commands_sent end) (one ∷ []) in
    let many = ap length accepted in
    let few = keeps.few in
    let hop = sends.hop in
    let hops = keeps.hops_few in
    record {
      own = sends.same.slot ∙ keeps.own;
      control_admitted = ap is_some control ∙ keeps.control_admitted;
      data_admitted = ap is_some data_half ∙ keeps.data_admitted;
      names = λ half counter here there.
          one_same end after half counter sends.same
          (keeps.names half counter (sym control ∙ here) (sym data_half ∙ there));
      accepted = subst (AreAccepted after) (sym accepted)
          (accepted_sends line c end after old.accepted sends keeps.accepted);
      late = subst (All (λ (i : DataItem). i.packet.moment ≤ latest)) (sym accepted) keeps.late;
      late_start = subst (λ n. unwrap_or n 0 ≤ latest) (ap (λ s. last_of s.value) (sym sends.same.started))
          keeps.late_start;
      few = omega (arith, sent, many, few);
      hops_few = omega (arith, hop, hops);
    }

pub halves_command : (slices room lane slots lines latest asks slot line : ℕ) (c : CommandKind) (old new : Halves)
    → Commanded slot line c old new → slot < slots → HalvesKeep slices room lane slots lines latest asks old
    → HalvesKeep slices room lane slots (lines + 1) latest asks new
halves_command slices room lane slots lines latest asks slot line c old new does low keeps =
    let asked = ap (λ (l : Load). l.asked) does.load in
    let asked_few = keeps.asked in
    let control = does.asked in
    let control_few = keeps.control_asked in
    let lots = does.lots in
    let lots_few = keeps.lots_few in
    let rooms : (sender_lane does.after.lane).room ≡ room =
    ap (λ (l : Lane). l.room) does.sends.same.lane ∙ keeps.rooms slot does.end does.was in
    one_changes slices room lane slots lines latest (lines + 1) latest asks asks slot old new does.others
    does.sides low (omega (arith, lots, lots_few)) (omega arith) (omega arith) keeps
    (view_split slot (lines + 1) latest does.after (view_at new slot) does.is
    (split_sends slot lines latest line c does.end does.after (view_at old slot) (view_at new slot) does.sends
    does.control does.data_half does.accepted
    (split_keeps slot lines latest does.end (view_at old slot) does.was (keeps.views slot))))
    (rooms_one room (view_at new slot).lot does.after does.is rooms)
    (omega (arith, control, control_few)) (omega (arith, asked, asked_few))

-- a packet more
accepted_more : (line latest : ℕ) (packet : Packet) (end after : FrontEnd) (items : List DataItem)
    (item : DataItem) → EndAccepts end after → IsItemOf end line packet item
    → MayStand (commands_met end.started.value) (commands_sent end) item
    → All (λ (i : DataItem). i.packet.moment ≤ latest) items → unwrap_or (last_of (start_of end)) 0 ≤ latest
    → latest ≤ packet.moment → AreAccepted end items → AreAccepted after (items ++ item ∷ [])
accepted_more line latest packet end after items item accepts made stands late start moment are =
    let counted = are.counted in
    let count = accepts.packets in
    let many = length-append items (item ∷ []) in
    let first : (start_of after).packets ≡ (start_of end).packets =
    ap (λ s. s.value.packets) accepts.same.started in
    let number : item.number ≡ (start_of end).packets + length items = made.number ∙ are.counted in
    let packet_number : item.packet.number ≡ (start_of end).packets + length items =
    ap (λ (p : Packet). p.number) made.packet_is ∙ are.counted in
    let at : item.packet.moment ≡ packet.moment = ap (λ (p : Packet). p.moment) made.packet_is in
    let least : ℕ = unwrap_or (last_of (start_of end)) 0 in
    let moments : List ℕ = map (λ (i : DataItem). i.packet.moment) items in
    let later : AreLate least (map (λ (i : DataItem). i.packet.moment) (items ++ item ∷ [])) =
    subst (AreLate least) (sym (map-append (λ (i : DataItem). i.packet.moment) items (item ∷ [])))
    (late_push least latest item.packet.moment moments are.late
    (All-map (λ (m : ℕ). m ≤ latest) (λ (i : DataItem). i.packet.moment) items late) start
    (omega (arith, moment, at))) in
    let all : All (MayStand (commands_met (start_of end)) (commands_sent end)) (items ++ item ∷ []) =
    All-push (MayStand (commands_met (start_of end)) (commands_sent end)) items item are.standing stands in
    record {
      counted = omega (arith, count, counted, many, first);
      numbered = subst (λ n. AreNumbered n (start_of after).packets (items ++ item ∷ [])) (sym accepts.same.slot)
          (subst (λ n. AreNumbered end.slot n (items ++ item ∷ [])) (sym first)
          (numbered_push end.slot (start_of end).packets items item are.numbered made.slot number packet_number));
      standing = subst (λ n. All (MayStand n (commands_sent after)) (items ++ item ∷ []))
          (ap (λ s. commands_met s.value) (sym accepts.same.started))
          (subst (λ cs. All (MayStand (commands_met (start_of end)) cs) (items ++ item ∷ []))
          (sym accepts.commands.0) all);
      late = subst (λ n. AreLate (unwrap_or n 0) (map (λ (i : DataItem). i.packet.moment) (items ++ item ∷ [])))
          (ap (λ s. last_of s.value) (sym accepts.same.started)) later;
    }

split_accepts : (slot lines latest line : ℕ) (packet : Packet) (end after : FrontEnd) (item : DataItem)
    (old new : View) → EndAccepts end after → IsItemOf end line packet item
    → MayStand (commands_met end.started.value) (commands_sent end) item
    → latest ≤ packet.moment → new.control ≡ old.control → new.data_half ≡ old.data_half
    → new.accepted ≡ old.accepted ++ item ∷ [] → SplitKeeps slot lines latest end old
    → SplitKeeps slot (lines + 1) packet.moment after new
split_accepts slot lines latest line packet end after item old new accepts made stands moment control data_half more
    keeps =
    let sent = ap length accepts.commands.0 in
    let many = ap length more ∙ length-append old.accepted (item ∷ []) in
    let few = keeps.few in
    let hop = accepts.hop in
    let hops = keeps.hops_few in
    let start = keeps.late_start in
    let at : item.packet.moment ≡ packet.moment = ap (λ (p : Packet). p.moment) made.packet_is in
    record {
      own = accepts.same.slot ∙ keeps.own;
      control_admitted = ap is_some control ∙ keeps.control_admitted;
      data_admitted = ap is_some data_half ∙ keeps.data_admitted;
      names = λ half counter here there.
          one_same end after half counter accepts.same
          (keeps.names half counter (sym control ∙ here) (sym data_half ∙ there));
      accepted = subst (AreAccepted after) (sym more)
          (accepted_more line latest packet end after old.accepted item accepts made stands keeps.late
          keeps.late_start moment keeps.accepted);
      late = subst (All (λ (i : DataItem). i.packet.moment ≤ packet.moment)) (sym more)
          (All-push (λ (i : DataItem). i.packet.moment ≤ packet.moment) old.accepted item
          (All-weaker (λ (i : DataItem). i.packet.moment ≤ latest) (λ (i : DataItem). i.packet.moment ≤ packet.moment)
          (λ i here. omega (arith, here, moment)) old.accepted keeps.late) (omega (arith, at)));
      late_start = subst (λ n. unwrap_or n 0 ≤ packet.moment) (ap (λ s. last_of s.value) (sym accepts.same.started))
          (omega (arith, start, moment));
      few = omega (arith, sent, many, few);
      hops_few = omega (arith, hop, hops);
    }

pub halves_receive : (slices room lane slots lines latest asks slot line : ℕ) (packet : Packet) (parked : Bool)
    (old new : Halves) → Received slot line packet parked old new → slot < slots → latest ≤ packet.moment
    → HalvesKeep slices room lane slots lines latest asks old
    → HalvesKeep slices room lane slots (lines + 1) packet.moment (asks + 1) new
halves_receive slices room lane slots lines latest asks slot line packet parked old new does low moment keeps =
    let asked = does.load_asked in
    let asked_few = keeps.asked in
    let control = does.asked in
    let control_few = keeps.control_asked in
    let lots = does.lots in
    let lots_few = keeps.lots_few in
    let rooms : (sender_lane does.after.lane).room ≡ room =
    ap (λ (l : Lane). l.room) does.accepts.same.lane ∙ keeps.rooms slot does.end does.was in
    one_changes slices room lane slots lines latest (lines + 1) packet.moment asks (asks + 1) slot old new does.others
    does.sides low (omega (arith, lots, lots_few)) (omega arith) moment keeps
    (view_split slot (lines + 1) packet.moment does.after (view_at new slot) does.is
    (split_accepts slot lines latest line packet does.end does.after does.item (view_at old slot)
    (view_at new slot) does.accepts does.made does.stands moment does.control does.data_half does.accepted
    (split_keeps slot lines latest does.end (view_at old slot) does.was (keeps.views slot))))
    (rooms_one room (view_at new slot).lot does.after does.is rooms)
    (omega (arith, control, control_few)) (omega (arith, asked, asked_few))
