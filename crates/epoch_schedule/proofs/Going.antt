-- The pump, offers and turns change nothing that was accepted, and bring no more orders than halves owe.
use Rattle.std.proofs.Common.{◌≡◌, ℕ, zero, suc, ◌+◌, ◌-◌, ◌≤◌, ◌==◌, ◌||◌, not, Bool, true, false, nat_lt, nat_le, Option, Some, None, List, [], ◌∷◌, ◌++◌, map, length, replicate, cond, refl, sym, ap, ◌∙◌, arith, true≢false}
use Rattle.std.proofs.lemmas.Bool.{and_from, and_parts, ltb-true, lt-ltb}
use Rattle.std.proofs.lemmas.List.{map-append}
use Rattle.std.proofs.lemmas.List.Sums.{sum_by-append, sum_by-cons}
use Rattle.pc_base.specs.declared.packet.Place.TheVariants.{At}
use Rattle.epoch_schedule.specs.Slots.{CommandTags, Standing, absent, front, placed, recalled, leaving, is_placed, is_absent, SlotNow, fresh_slot}
use Rattle.epoch_schedule.specs.Halves.{next_batch, apply_some, send, Worked, apply_batch, work_behind, control_work, floor_of, take_batch, learn_batch, learn_one, batches_learnt, learn, handle}
use Rattle.epoch_schedule.specs.World.{World, DataOrder, item, DataNow, fresh_data, slot_at, on_slot, data_at, on_data}
use Rattle.epoch_schedule.specs.Front.{back, parks}
use Rattle.epoch_schedule.proofs.Keeping.{put_each, put_others, eqb_same, cond_keeps, times_keeps}
use Rattle.epoch_schedule.proofs.Steps.{order_slot, orders_of, times_in, owed_by, is_called, Steps}
use Rattle.epoch_schedule.proofs.Worlds.{absent-back}

-- what the front knows of a slot, and of that what only lines change
pub record Known : Type 0 where
  pub commands : List CommandTags
  pub packets : List ℕ
  pub hop : ℕ
  pub control : Standing
  pub data_half : Standing
  pub queued : ℕ

abbrev pub known_of : SlotNow → Known
known_of slot = record {
  commands = slot.commands;
  packets = slot.packets;
  hop = slot.hop;
  control = slot.control;
  data_half = slot.data_half;
  queued = slot.queued;
}

pub record Kept : Type 0 where
  pub commands : List CommandTags
  pub packets : List ℕ
  pub hop : ℕ
  pub no_control : Bool
  pub no_data : Bool

abbrev pub kept_in : Known → Kept
kept_in known = record {
  commands = known.commands;
  packets = known.packets;
  hop = known.hop;
  no_control = is_absent known.control;
  no_data = is_absent known.data_half;
}

abbrev pub kept_of : SlotNow → Kept
kept_of slot = kept_in (known_of slot)

pub record SlotGoes (old new : SlotNow) : Type 0 where
  pub kept : kept_of new ≡ kept_of old
  pub queued : new.queued ≤ old.queued
  pub away : is_placed new.data_half ≡ false → is_placed old.data_half ≡ false
  pub called : is_called new.data_half ≡ true → is_called old.data_half ≡ true

pub slot_stays : (slot : SlotNow) → SlotGoes slot slot
slot_stays slot = record {
  kept = refl;
  queued = omega arith;
  away = λ is. is;
  called = λ is. is;
}

slot_goes_on : (one other last : SlotNow) → SlotGoes one other → SlotGoes other last → SlotGoes one last
slot_goes_on one other last first second =
    let few = first.queued in
    let fewer = second.queued in
    record {
      kept = second.kept ∙ first.kept;
      queued = omega (arith, few, fewer);
      away = λ is. first.away (second.away is);
      called = λ is. first.called (second.called is);
    }

-- what is owed to the lanes of a slot: its half's orders, and its packets that wait
abbrev pub owed_in : Known → ℕ
owed_in known = owed_by known.data_half + known.queued

abbrev pub owed : SlotNow → ℕ
owed slot = owed_in (known_of slot)

abbrev pub load : World → (slice s : ℕ) → ℕ
load world slice s = orders_of s (data_at world slice).orders + owed (slot_at world s)

pub record Goes (old new : World) : Type 0 where
  pub slots : (s : ℕ) → SlotGoes (slot_at old s) (slot_at new s)
  pub lanes : (slice s : ℕ) → load new slice s ≤ load old slice s

pub world_stays : (world : World) → Goes world world
world_stays world = record { slots = λ s. slot_stays (slot_at world s); lanes = λ slice s. omega arith }

goes_on : (one other last : World) → Goes other last → Goes one other → Goes one last
goes_on one other last second first = record {
  slots = λ s. slot_goes_on (slot_at one s) (slot_at other s) (slot_at last s) (first.slots s) (second.slots s);
  lanes = λ slice s.
      let few = first.lanes slice s in
      let fewer = second.lanes slice s in
      omega (arith, few, fewer);
}

-- whether packets park
waits_less : (old new : Bool) (many few : ℕ) → few ≤ many → (new ≡ false → old ≡ false)
    → (not new || nat_lt 0 few) ≡ true → (not old || nat_lt 0 many) ≡ true
waits_less false new many few fewer away is = refl
waits_less true false many few fewer away is = absurd (true≢false (away refl))
waits_less true true many few fewer away is =
    let some = ltb-true 0 few is in lt-ltb 0 many (omega (arith, some, fewer))

pub parks_still : (old new : SlotNow) → new.hop ≡ old.hop → new.queued ≤ old.queued
    → (is_placed new.data_half ≡ false → is_placed old.data_half ≡ false) → parks new ≡ true → parks old ≡ true
parks_still old new hop few away is =
    let parts = and_parts (nat_lt 0 new.hop) (not (is_placed new.data_half) || nat_lt 0 new.queued) is in
    and_from (nat_lt 0 old.hop) (not (is_placed old.data_half) || nat_lt 0 old.queued)
    (ap (nat_lt 0) (sym hop) ∙ parts.0)
    (waits_less (is_placed old.data_half) (is_placed new.data_half) old.queued new.queued few away parts.1)

pub parks_less : (old new : SlotNow) → SlotGoes old new → parks new ≡ true → parks old ≡ true
parks_less old new goes is = parks_still old new (ap (λ (k : Kept). k.hop) goes.kept) goes.queued goes.away is

-- a slot that is known as before
known_goes : (old new : SlotNow) → known_of new ≡ known_of old → SlotGoes old new
known_goes old new same =
    let queued = ap (λ (k : Known). k.queued) same in
    record {
      kept = ap kept_in same;
      queued = omega (arith, queued);
      away = λ is. sym (ap (λ (k : Known). is_placed k.data_half) same) ∙ is;
      called = λ is. sym (ap (λ (k : Known). is_called k.data_half) same) ∙ is;
    }

send_known : (room : ℕ) (slot : SlotNow) (n : ℕ) → known_of (send room slot n) ≡ known_of slot
send_known room slot zero = refl
send_known room slot (suc n) =
    cond_keeps (λ (new : SlotNow). known_of new ≡ known_of slot) (nat_lt (length slot.sent) room)
    (record slot { sent = slot.sent ++ suc n ∷ [] }) (record slot { unsent = Some (suc n) }) refl refl

work_known : (room : ℕ) (slot : SlotNow) (unsent : Option ℕ)
    → known_of (work_behind room slot unsent).slot ≡ known_of slot
work_known room slot None = send_known room (apply_some slot (next_batch slot)) (next_batch slot)
work_known room slot (Some n) =
    let sent : SlotNow = record slot { unsent = None; sent = slot.sent ++ n ∷ [] } in
    cond_keeps (λ (w : Worked). known_of w.slot ≡ known_of slot) (nat_lt (length slot.sent) room)
    (record { slot = apply_batch room sent; worked = true }) (record { slot = slot; worked = false })
    (send_known room (apply_some sent (next_batch sent)) (next_batch sent)) refl

take_known : (slot : SlotNow) (batch : Option ℕ) (sent : List ℕ) → known_of (take_batch slot batch sent) ≡ known_of slot
take_known slot (Some n) sent = refl
take_known slot None [] = refl
take_known slot None (n ∷ sent) = refl

learn_batch_known : (slot : SlotNow) (batch : Option ℕ) → known_of (learn_batch slot batch) ≡ known_of slot
learn_batch_known slot None = refl
learn_batch_known slot (Some n) =
    cond_keeps (λ (new : SlotNow). known_of new ≡ known_of slot)
    (nat_le (floor_of slot (slot.learnt + n - 1)) (length slot.met))
    (record slot { batch = None; learnt = slot.learnt + n }) slot refl refl

learn_one_known : (slot : SlotNow) → known_of (learn_one slot) ≡ known_of slot
learn_one_known slot =
    let taken = take_batch slot slot.batch slot.sent in
    learn_batch_known taken taken.batch ∙ take_known slot slot.batch slot.sent

learn_known : (slot : SlotNow) → known_of (learn slot) ≡ known_of slot
unfolding learn
learn_known slot =
    times_keeps (λ (new : SlotNow). known_of new ≡ known_of slot) learn_one (λ new is. learn_one_known new ∙ is)
    batches_learnt slot refl

-- a slot changes
slot_step : (world : World) (s : ℕ) (change : SlotNow → SlotNow)
    → SlotGoes (slot_at world s) (change (slot_at world s)) → owed (change (slot_at world s)) ≤ owed (slot_at world s)
    → Goes world (on_slot world s change)
slot_step world s change goes few = record {
  slots = put_each (λ m slot. SlotGoes (slot_at world m) slot) fresh_slot world.slots s (change (slot_at world s))
      (λ m. slot_stays (slot_at world m)) goes;
  lanes = λ slice. put_each (λ m slot. orders_of m (data_at world slice).orders + owed slot ≤ load world slice m)
      fresh_slot world.slots s (change (slot_at world s)) (λ m. omega arith) (omega (arith, few));
}

known_step : (world : World) (s : ℕ) (change : SlotNow → SlotNow)
    → known_of (change (slot_at world s)) ≡ known_of (slot_at world s) → Goes world (on_slot world s change)
known_step world s change same =
    let few = ap owed_in same in
    slot_step world s change (known_goes (slot_at world s) (change (slot_at world s)) same) (omega (arith, few))

-- a lane gets no more orders
lane_step : (world : World) (slice : ℕ) (change : DataNow → DataNow)
    → ((s : ℕ) → orders_of s (change (data_at world slice)).orders ≤ orders_of s (data_at world slice).orders)
    → Goes world (on_data world slice change)
lane_step world slice change fewer = record {
  slots = λ s. slot_stays (slot_at world s);
  lanes = put_each (λ d worker. (s : ℕ) → orders_of s worker.orders + owed (slot_at world s) ≤ load world d s)
      fresh_data world.datas slice (change (data_at world slice)) (λ d s. omega arith)
      (λ s. let few = fewer s in omega (arith, few));
}

-- a lane gets orders that a slot owed
pub orders-more : (s : ℕ) (orders more : List DataOrder)
    → orders_of s (orders ++ more) ≡ orders_of s orders + orders_of s more
orders-more s orders more =
    ap (times_in s) (map-append order_slot orders more)
    ∙ sum_by-append (λ (own : ℕ). cond (own == s) 1 0) (map order_slot orders) (map order_slot more)

pub one_order : (s own : ℕ) (order : DataOrder) → order_slot order ≡ own
    → orders_of s (order ∷ []) ≤ cond (own == s) 1 0
one_order s own order is =
    let one = sum_by-cons (λ (other : ℕ). cond (other == s) 1 0) (order_slot order) [] in
    let same = ap {B = ℕ} (λ k. cond (k == s) 1 0) is in
    omega (arith, one, same)

cond-more : (test : Bool) (n : ℕ) → cond test 1 0 + cond test n 0 ≡ cond test (suc n) 0
cond-more true n = omega arith
cond-more false n = refl

items_few : (s own n : ℕ) → orders_of s (replicate n (item own)) ≤ cond (own == s) n 0
items_few s own zero = omega arith
items_few s own (suc n) =
    let one = sum_by-cons (λ (other : ℕ). cond (other == s) 1 0) own (map order_slot (replicate n (item own))) in
    let rest = items_few s own n in
    let more = cond-more (own == s) n in
    omega (arith, one, rest, more)

give_step : (world : World) (slice s n : ℕ) (more : List DataOrder) (change : SlotNow → SlotNow)
    → ((m : ℕ) → orders_of m more ≤ cond (s == m) n 0)
    → SlotGoes (slot_at world s) (change (slot_at world s))
    → owed (change (slot_at world s)) + n ≤ owed (slot_at world s)
    → Goes world (on_slot (on_data world slice (λ worker. record worker { orders = worker.orders ++ more })) s change)
give_step world slice s n more change few goes owes = record {
  slots = put_each (λ m slot. SlotGoes (slot_at world m) slot) fresh_slot world.slots s (change (slot_at world s))
      (λ m. slot_stays (slot_at world m)) goes;
  lanes = λ d m.
      let lane = put_each (λ d worker. (m : ℕ)
      → orders_of m worker.orders ≤ orders_of m (data_at world d).orders + cond (s == m) n 0)
      fresh_data world.datas slice
      (record (data_at world slice) { orders = (data_at world slice).orders ++ more }) (λ d m. omega arith)
      (λ m.
      let parts = orders-more m (data_at world slice).orders more in
      let some = few m in
      omega (arith, parts, some)) d m in
      let own = put_others (λ m slot. owed slot + cond (s == m) n 0 ≤ owed (slot_at world m)) fresh_slot world.slots s
      (change (slot_at world s))
      (λ m other. let none = ap {B = ℕ} (λ test. cond test n 0) other in omega (arith, none))
      (let all = ap {B = ℕ} (λ test. cond test n 0) (eqb_same s) in omega (arith, all, owes)) m in
      omega (arith, lane, own);
}

-- standings
away-back : (standing : Standing) → is_placed (back standing) ≡ is_placed standing
away-back absent = refl
away-back front = refl
away-back (placed slice) = refl
away-back (recalled slice until) = refl
away-back leaving = refl

called-back : (standing : Standing) → is_called (back standing) ≡ true → is_called standing ≡ true
called-back absent is = is
called-back front is = is
called-back (placed slice) is = is
called-back (recalled slice until) is = is
called-back leaving is = refl

owed-back : (standing : Standing) → owed_by (back standing) ≡ owed_by standing
owed-back absent = refl
owed-back front = refl
owed-back (placed slice) = refl
owed-back (recalled slice until) = refl
owed-back leaving = refl

pub going_steps : (from : World) → Steps (Goes from)
going_steps from = record {
  controls = λ world slice change goes. record { slots = goes.slots; lanes = goes.lanes };
  datas = λ world slice change fewer goes.
      goes_on from world (on_data world slice change) (lane_step world slice change fewer) goes;
  stands = λ world s standing there goes.
      goes_on from world (on_slot world s (λ slot. record slot { control = standing }))
      (slot_step world s (λ slot. record slot { control = standing })
      (record {
        kept = λ i. record (kept_of (slot_at world s)) { no_control = there i };
        queued = omega arith;
        away = λ is. is;
        called = λ is. is;
      }) (omega arith)) goes;
  arrives = λ world s goes.
      goes_on from world (on_slot world s (λ slot. record slot { arrived = slot.hop }))
      (known_step world s (λ slot. record slot { arrived = slot.hop }) refl) goes;
  backs = λ world s goes.
      let same = owed-back (slot_at world s).data_half in
      let there = absent-back (slot_at world s).data_half in
      goes_on from world (on_slot world s (λ slot. record slot { data_half = back slot.data_half }))
      (slot_step world s (λ slot. record slot { data_half = back slot.data_half })
      (record {
        kept = λ i. record (kept_of (slot_at world s)) { no_data = there i };
        queued = omega arith;
        away = λ is. sym (away-back (slot_at world s).data_half) ∙ is;
        called = called-back (slot_at world s).data_half;
      }) (omega (arith, same))) goes;
  gives = λ world slice s order standing own follows goes.
      let there = follows.there in
      let away = follows.away in
      let owes = follows.owed in
      goes_on from world
      (on_slot (on_data world slice (λ worker. record worker { orders = worker.orders ++ order ∷ [] })) s
      (λ slot. record slot { data_half = standing }))
      (give_step world slice s 1 (order ∷ []) (λ slot. record slot { data_half = standing })
      (λ m. one_order m s order own)
      (record {
        kept = λ i. record (kept_of (slot_at world s)) { no_data = there i };
        queued = omega arith;
        away = λ is. away;
        called = follows.called;
      }) (omega (arith, owes))) goes;
  drains = λ rooms world slice s n few goes.
      goes_on from world
      (on_slot (on_data world slice (λ worker. record worker { orders = worker.orders ++ replicate n (item s) })) s
      (λ slot. record slot { queued = slot.queued - n }))
      (give_step world slice s n (replicate n (item s)) (λ slot. record slot { queued = slot.queued - n })
      (λ m. items_few m s n)
      (record { kept = refl; queued = omega arith; away = λ is. is; called = λ is. is })
      (omega (arith, few))) goes;
  works = λ room world s goes.
      goes_on from world (on_slot world s (λ slot. (control_work room slot).slot))
      (known_step world s (λ slot. (control_work room slot).slot)
      (work_known room (slot_at world s) (slot_at world s).unsent)) goes;
  learns = λ world s goes.
      goes_on from world (on_slot world s learn) (known_step world s learn (learn_known (slot_at world s))) goes;
  handles = λ slice world s may goes.
      goes_on from world (on_slot world s (handle (At slice))) (known_step world s (handle (At slice)) refl) goes;
}
