-- What is done at a slot leaves the other slots, and which halves control workers hold; data halves stay on slices that
-- have a worker.
use Rattle.std.proofs.Common.{◌≡◌, ℕ, zero, suc, ◌+◌, ◌-◌, ◌<◌, ◌≤◌, ◌==◌, false, nat_lt, min, List, [], ◌∷◌, ◌++◌, length, replicate, cond, refl, ap, ◌∙◌, arith}
use Rattle.epoch_schedule.specs.Numbers.{value_at, put_at}
use Rattle.epoch_schedule.specs.Slots.{Standing, absent, front, placed, recalled, leaving, is_placed, is_absent, SlotNow, fresh_slot, destination}
use Rattle.epoch_schedule.specs.World.{World, Rooms, ControlOrder, come, go, ControlNow, DataNow, DataOrder, arrive, leave, item, fresh_control, fresh_data, order_room, has_room, slot_at, on_slot, control_at, on_control, data_at, on_data}
use Rattle.epoch_schedule.specs.Front.{command, packet, move, Done, accepted, parked_at, refused, back, control_back, data_back, control_ordered, control_offer_at, control_offer, data_ordered, data_offer_at, data_offer, drain_at, control_made, data_made, made, admitted, with_command, offer_command, parks, with_packet, park_packet, send_packet_at, send_packet, is_front, arrived_first, offer_packet, control_called, moved, control_recalled, data_recalled, move_slot, line_done}
use Rattle.epoch_schedule.proofs.Keeping.{put_each, value-put, cond_keeps}
use Rattle.epoch_schedule.specs.Listed.{IsWithin, AreWithin}
use Rattle.epoch_schedule.specs.Waiting.{step_by}
use Rattle.epoch_schedule.specs.declared.waiting.Pass.{Pass}
use Rattle.epoch_schedule.specs.declared.waiting.Pass.TheVariants as pass

-- lists
pub length_put : {X : Type 0} (fresh : X) (xs : List X) (n : ℕ) (x : X)
    → (length xs ≤ length (put_at fresh xs n x)) × (n < length (put_at fresh xs n x))
length_put fresh [] zero x = (omega arith, omega arith)
length_put fresh [] (suc n) x = let more = length_put fresh [] n x in (omega arith, omega (arith, more.1))
length_put fresh (y ∷ ys) zero x = (omega arith, omega arith)
length_put fresh (y ∷ ys) (suc n) x =
    let more = length_put fresh ys n x in (omega (arith, more.0), omega (arith, more.1))

pub put_same : {X : Type 0} (fresh : X) (xs : List X) (n : ℕ) → n < length xs → put_at fresh xs n (value_at fresh xs n) ≡ xs
put_same fresh [] n within = absurd (omega (arith, within))
put_same fresh (x ∷ xs) zero within = refl
put_same fresh (x ∷ xs) (suc n) within = ap (λ ys. x ∷ ys) (put_same fresh xs n (omega (arith, within)))

pub put_other : {X : Type 0} (fresh : X) (xs : List X) (n m : ℕ) (x : X) → (n == m) ≡ false
    → value_at fresh (put_at fresh xs n x) m ≡ value_at fresh xs m
put_other fresh xs n m x other =
    value-put fresh xs n m x ∙ ap (λ test. cond test x (value_at fresh xs m)) other

-- within
within_more : (few many : ℕ) (standing : Standing) → few ≤ many → IsWithin few standing → IsWithin many standing
within_more few many absent more within = tt
within_more few many front more within = tt
within_more few many (placed slice) more within = omega (arith, more, within)
within_more few many (recalled slice until) more within = tt
within_more few many leaving more within = tt

within_back : (count : ℕ) (standing : Standing) → IsWithin count standing → IsWithin count (back standing)
within_back count absent within = within
within_back count front within = within
within_back count (placed slice) within = within
within_back count (recalled slice until) within = within
within_back count leaving within = tt

within_called : (count until : ℕ) (standing : Standing) → IsWithin count standing
    → IsWithin count (control_called standing until)
within_called count until absent within = within
within_called count until front within = within
within_called count until (placed slice) within = tt
within_called count until (recalled slice earlier) within = within
within_called count until leaving within = within

pub on_slot_within : (world : World) (s : ℕ) (change : SlotNow → SlotNow)
    → IsWithin (length world.datas) (change (slot_at world s)).data_half → AreWithin world
    → AreWithin (on_slot world s change)
on_slot_within world s change here are =
    put_each (λ m (slot : SlotNow). IsWithin (length world.datas) slot.data_half) fresh_slot world.slots s
    (change (slot_at world s)) are here

pub on_data_within : (world : World) (slice : ℕ) (change : DataNow → DataNow) → AreWithin world
    → AreWithin (on_data world slice change)
on_data_within world slice change are = λ s.
    let more = length_put fresh_data world.datas slice (change (data_at world slice)) in
    within_more (length world.datas) (length (on_data world slice change).datas) (slot_at world s).data_half more.0 (are s)

pub record Touches (s : ℕ) (old new : World) : Type 0 where
  pub others : (t : ℕ) → (s == t) ≡ false → slot_at new t ≡ slot_at old t
  pub held : (slice : ℕ) → (control_at new slice).held ≡ (control_at old slice).held
  pub within : AreWithin old → AreWithin new
  pub many : length old.slots ≤ length new.slots
  pub few : s < length old.slots → length new.slots ≤ length old.slots

length-put_within : {X : Type 0} (fresh : X) (xs : List X) (n : ℕ) (x : X) → n < length xs
    → length (put_at fresh xs n x) ≤ length xs
length-put_within fresh [] n x within = absurd (omega (arith, within))
length-put_within fresh (y ∷ ys) zero x within = omega arith
length-put_within fresh (y ∷ ys) (suc n) x within =
    let less = length-put_within fresh ys n x (omega (arith, within)) in
    omega (arith, less)

module _ (s : ℕ) where
  pub touches_none : (world : World) → Touches s world world
  touches_none world = record {
    others = λ t other. refl;
    held = λ slice. refl;
    within = λ are. are;
    many = omega arith;
    few = λ below. omega arith;
  }

  pub touches_then : (one two three : World) → Touches s one two → Touches s two three → Touches s one three
  touches_then one two three first next = record {
    others = λ t other. next.others t other ∙ first.others t other;
    held = λ slice. next.held slice ∙ first.held slice;
    within = λ are. next.within (first.within are);
    many = let less = first.many in let more = next.many in omega (arith, less, more);
    few = λ below.
        let more = first.many in
        let less = first.few below in
        let least = next.few (omega (arith, below, more)) in
        omega (arith, less, least);
  }

  touches_slot : (world : World) (change : SlotNow → SlotNow)
      → ((count : ℕ) → IsWithin count (slot_at world s).data_half → IsWithin count (change (slot_at world s)).data_half)
      → Touches s world (on_slot world s change)
  touches_slot world change within =
      let more = length_put fresh_slot world.slots s (change (slot_at world s)) in
      record {
        others = λ t other. put_other fresh_slot world.slots s t (change (slot_at world s)) other;
        held = λ slice. refl;
        within = λ are. on_slot_within world s change (within (length world.datas) (are s)) are;
        many = more.0;
        few = λ below. length-put_within fresh_slot world.slots s (change (slot_at world s)) below;
      }

  touches_control : (world : World) (slice : ℕ) (order : ControlOrder)
      → Touches s world (on_control world slice (λ worker. record worker { orders = worker.orders ++ order ∷ [] }))
  touches_control world slice order = record {
    others = λ t other. refl;
    held = put_each (λ m (worker : ControlNow). worker.held ≡ (control_at world m).held) fresh_control world.controls
        slice (record (control_at world slice) { orders = (control_at world slice).orders ++ order ∷ [] }) (λ m. refl)
        refl;
    within = λ are. are;
    many = omega arith;
    few = λ below. omega arith;
  }

  touches_data : (world : World) (slice : ℕ) (change : DataNow → DataNow)
      → Touches s world (on_data world slice change)
  touches_data world slice change = record {
    others = λ t other. refl;
    held = λ other. refl;
    within = on_data_within world slice change;
    many = omega arith;
    few = λ below. omega arith;
  }

  -- orders
  control_ordered_touches : (world : World) (slice : ℕ) (order : ControlOrder) (standing : Standing)
      → Touches s world (control_ordered world slice s order standing)
  control_ordered_touches world slice order standing =
      let given = on_control world slice (λ worker. record worker { orders = worker.orders ++ order ∷ [] }) in
      cond_keeps (Touches s world) (has_room order_room (control_at world slice).orders)
      (on_slot given s (λ slot. record slot { control = standing })) world
      (touches_then world given (on_slot given s (λ slot. record slot { control = standing }))
      (touches_control world slice order)
      (touches_slot given (λ slot. record slot { control = standing }) (λ count within. within)))
      (touches_none world)

  control_offer_at_touches : (bounds : ℕ → ℕ) (world : World) (standing : Standing)
      → Touches s world (control_offer_at bounds world s standing)
  control_offer_at_touches bounds world absent = touches_none world
  control_offer_at_touches bounds world front =
      let told = on_slot world s (λ slot. record slot { arrived = slot.hop }) in
      let slice = destination bounds s (slot_at world s) in
      touches_then world told (control_ordered told slice s (come s) (placed slice))
      (touches_slot world (λ slot. record slot { arrived = slot.hop }) (λ count within. within))
      (control_ordered_touches told slice (come s) (placed slice))
  control_offer_at_touches bounds world (placed slice) = touches_none world
  control_offer_at_touches bounds world (recalled slice until) =
      control_ordered_touches world slice (go s until) leaving
  control_offer_at_touches bounds world leaving = touches_none world

  pub control_offer_touches : (bounds : ℕ → ℕ) (world : World) → Touches s world (control_offer bounds world s)
  control_offer_touches bounds world = control_offer_at_touches bounds world (slot_at world s).control

  data_ordered_touches : (rooms : Rooms) (world : World) (slice : ℕ) (order : DataOrder) (standing : Standing)
      → ((count : ℕ) → slice < count → IsWithin count standing)
      → Touches s world (data_ordered rooms world slice s order standing)
  data_ordered_touches rooms world slice order standing within =
      let change : DataNow → DataNow = λ worker. record worker { orders = worker.orders ++ order ∷ [] } in
      let given = on_data world slice change in
      let stands : SlotNow → SlotNow = λ slot. record slot { data_half = standing } in
      let datas = length_put fresh_data world.datas slice (change (data_at world slice)) in
      let more = length_put fresh_slot given.slots s (stands (slot_at given s)) in
      cond_keeps (Touches s world) (has_room rooms.lane (data_at world slice).orders) (on_slot given s stands) world
      (record {
        others = λ t other. put_other fresh_slot world.slots s t (stands (slot_at given s)) other;
        held = λ other. refl;
        within = λ are. on_slot_within given s stands (within (length given.datas) datas.1)
            (on_data_within world slice change are);
        many = more.0;
        few = λ below. length-put_within fresh_slot world.slots s (stands (slot_at given s)) below;
      })
      (touches_none world)

  data_offer_at_touches : (rooms : Rooms) (bounds : ℕ → ℕ) (world : World) (standing : Standing)
      → Touches s world (data_offer_at rooms bounds world s standing)
  data_offer_at_touches rooms bounds world absent = touches_none world
  data_offer_at_touches rooms bounds world front =
      let slice = destination bounds s (slot_at world s) in
      data_ordered_touches rooms world slice (arrive s) (placed slice) (λ count below. below)
  data_offer_at_touches rooms bounds world (placed slice) = touches_none world
  data_offer_at_touches rooms bounds world (recalled slice until) =
      data_ordered_touches rooms world slice (leave s) leaving (λ count below. tt)
  data_offer_at_touches rooms bounds world leaving = touches_none world

  pub data_offer_touches : (rooms : Rooms) (bounds : ℕ → ℕ) (world : World)
      → Touches s world (data_offer rooms bounds world s)
  data_offer_touches rooms bounds world = data_offer_at_touches rooms bounds world (slot_at world s).data_half

  drain_at_touches : (rooms : Rooms) (world : World) (standing : Standing)
      → Touches s world (drain_at rooms world s standing)
  drain_at_touches rooms world absent = touches_none world
  drain_at_touches rooms world front = touches_none world
  drain_at_touches rooms world (placed slice) =
      let n = min (slot_at world s).queued (rooms.lane - length (data_at world slice).orders) in
      let change : DataNow → DataNow = λ worker. record worker { orders = worker.orders ++ replicate n (item s) } in
      let given = on_data world slice change in
      touches_then world given (on_slot given s (λ slot. record slot { queued = slot.queued - n }))
      (touches_data world slice change)
      (touches_slot given (λ slot. record slot { queued = slot.queued - n }) (λ count within. within))
  drain_at_touches rooms world (recalled slice until) = touches_none world
  drain_at_touches rooms world leaving = touches_none world

  pub step_touches : (of : Pass) (rooms : Rooms) (bounds : ℕ → ℕ) (world : World)
      → Touches s world (step_by of rooms bounds world s)
  step_touches pass.Controls rooms bounds world = control_offer_touches bounds world
  step_touches pass.Datas rooms bounds world = data_offer_touches rooms bounds world
  step_touches pass.Queues rooms bounds world = drain_at_touches rooms world (slot_at world s).data_half

  -- halves come home
  pub control_back_touches : (world : World) → Touches s world (control_back world s)
  control_back_touches world = touches_slot world (λ slot. record slot { control = back slot.control })
      (λ count within. within)

  pub data_back_touches : (world : World) → Touches s world (data_back world s)
  data_back_touches world = touches_slot world (λ slot. record slot { data_half = back slot.data_half })
      (λ count within. within_back count (slot_at world s).data_half within)

  -- a line of the slot
  abbrev DoneTouches : World → Done → Type 0
  DoneTouches world done = Touches s world done.world

  made_touches : (rooms : Rooms) (bounds : ℕ → ℕ) (world : World) → Touches s world (made rooms bounds world s)
  made_touches rooms bounds world =
      let one = control_made world s in
      let two = control_offer bounds one s in
      let three = data_made two s in
      touches_then world one (data_offer rooms bounds three s)
      (touches_slot world (λ slot. record slot { control = front }) (λ count within. within))
      (touches_then one two (data_offer rooms bounds three s) (control_offer_touches bounds one)
      (touches_then two three (data_offer rooms bounds three s)
      (touches_slot two (λ slot. record slot { data_half = front }) (λ count within. tt))
      (data_offer_touches rooms bounds three)))

  admitted_touches : (rooms : Rooms) (bounds : ℕ → ℕ) (world : World)
      → Touches s world (admitted rooms bounds world s)
  admitted_touches rooms bounds world =
      cond_keeps (Touches s world) (is_absent (slot_at world s).control) (made rooms bounds world s) world
      (made_touches rooms bounds world) (touches_none world)

  command_touches : (rooms : Rooms) (world : World) → DoneTouches world (offer_command rooms world s)
  command_touches rooms world =
      cond_keeps (DoneTouches world)
      (nat_lt (length (slot_at world s).commands - (slot_at world s).taken) rooms.room)
      (accepted (on_slot world s with_command)) (refused world)
      (touches_slot world with_command (λ count within. within)) (touches_none world)

  park_touches : (rooms : Rooms) (world : World) → DoneTouches world (park_packet rooms world s)
  park_touches rooms world =
      let change : SlotNow → SlotNow = λ slot. record (with_packet slot) { queued = slot.queued + 1 } in
      cond_keeps (DoneTouches world) (nat_lt (slot_at world s).queued rooms.room)
      (parked_at (on_slot world s change)) (refused world)
      (touches_slot world change (λ count within. within)) (touches_none world)

  send_at_touches : (rooms : Rooms) (world : World) (standing : Standing)
      → DoneTouches world (send_packet_at rooms world s standing)
  send_at_touches rooms world absent = touches_none world
  send_at_touches rooms world front = touches_none world
  send_at_touches rooms world (placed slice) =
      let change : DataNow → DataNow = λ worker. record worker { orders = worker.orders ++ item s ∷ [] } in
      let given = on_data world slice change in
      cond_keeps (DoneTouches world) (has_room rooms.lane (data_at world slice).orders)
      (accepted (on_slot given s with_packet)) (refused world)
      (touches_then world given (on_slot given s with_packet)
      (touches_data world slice change)
      (touches_slot given with_packet (λ count within. within))) (touches_none world)
  send_at_touches rooms world (recalled slice until) = touches_none world
  send_at_touches rooms world leaving = touches_none world

  packet_touches : (rooms : Rooms) (bounds : ℕ → ℕ) (world : World)
      → DoneTouches world (offer_packet rooms bounds world s)
  packet_touches rooms bounds world =
      let first = arrived_first rooms bounds world s in
      cond_keeps (DoneTouches world) (parks (slot_at world s)) (park_packet rooms world s) (send_packet rooms first s)
      (park_touches rooms world)
      (touches_then world first (send_packet rooms first s).world
      (cond_keeps (Touches s world) (is_front (slot_at world s).data_half) (data_offer rooms bounds world s) world
      (data_offer_touches rooms bounds world) (touches_none world))
      (send_at_touches rooms first (slot_at first s).data_half))

  control_recalled_touches : (bounds : ℕ → ℕ) (world : World) → Touches s world (control_recalled bounds world s)
  control_recalled_touches bounds world =
      let change : SlotNow → SlotNow =
      λ slot. record slot { control = control_called slot.control (length slot.commands) } in
      let called = on_slot world s change in
      cond_keeps (Touches s world) (is_placed (slot_at world s).control) (control_offer bounds called s) world
      (touches_then world called (control_offer bounds called s)
      (touches_slot world change (λ count within. within)) (control_offer_touches bounds called))
      (touches_none world)

  data_recalled_touches : (rooms : Rooms) (bounds : ℕ → ℕ) (world : World)
      → Touches s world (data_recalled rooms bounds world s)
  data_recalled_touches rooms bounds world =
      let change : SlotNow → SlotNow = λ slot. record slot { data_half = control_called slot.data_half 0 } in
      let called = on_slot world s change in
      cond_keeps (Touches s world) (is_placed (slot_at world s).data_half) (data_offer rooms bounds called s) world
      (touches_then world called (data_offer rooms bounds called s)
      (touches_slot world change (λ count within. within_called count 0 (slot_at world s).data_half within))
      (data_offer_touches rooms bounds called))
      (touches_none world)

  move_touches : (rooms : Rooms) (bounds : ℕ → ℕ) (world : World) (slice : ℕ)
      → Touches s world (move_slot rooms bounds world s slice)
  move_touches rooms bounds world slice =
      let one = on_slot world s (moved slice) in
      let two = control_recalled bounds one s in
      touches_then world one (data_recalled rooms bounds two s)
      (touches_slot world (moved slice) (λ count within. within))
      (touches_then one two (data_recalled rooms bounds two s) (control_recalled_touches bounds one)
      (data_recalled_touches rooms bounds two))

  pub command_line_touches : (rooms : Rooms) (bounds : ℕ → ℕ) (world : World)
      → DoneTouches world (line_done rooms bounds world (command s))
  command_line_touches rooms bounds world =
      let first = admitted rooms bounds world s in
      touches_then world first (offer_command rooms first s).world (admitted_touches rooms bounds world)
      (command_touches rooms first)

  pub packet_line_touches : (rooms : Rooms) (bounds : ℕ → ℕ) (world : World)
      → DoneTouches world (line_done rooms bounds world (packet s))
  packet_line_touches rooms bounds world =
      let first = admitted rooms bounds world s in
      touches_then world first (offer_packet rooms bounds first s).world (admitted_touches rooms bounds world)
      (packet_touches rooms bounds first)

  pub move_line_touches : (rooms : Rooms) (bounds : ℕ → ℕ) (world : World) (slice : ℕ)
      → DoneTouches world (line_done rooms bounds world (move s slice))
  move_line_touches rooms bounds world slice = move_touches rooms bounds world slice
