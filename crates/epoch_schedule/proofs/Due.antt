-- What becomes of each line is due to the lines before it.
use Rattle.std.proofs.Common.{◌≡◌, ℕ, ◌+◌, ◌-◌, ◌<◌, ◌≤◌, ◌==◌, ◌||◌, not, Bool, true, false, nat_lt, List, [], ◌∷◌, ◌++◌, map, length, cond, refl, sym, ap, subst, ◌∙◌, arith, inl, inr, true≢false}
use Rattle.std.proofs.lemmas.Bool.{and_from, and_parts, ltb-true, ltb-false, lt-ltb, eqb-true}
use Rattle.std.proofs.lemmas.List.{length-map}
use Rattle.epoch_schedule.specs.Slots.{Standing, absent, front, placed, recalled, leaving, is_placed, is_absent, SlotNow, fresh_slot, destination}
use Rattle.epoch_schedule.specs.World.{World, Rooms, start, DataOrder, arrive, item, fresh_data, has_room, slot_at, on_slot, data_at, on_data}
use Rattle.epoch_schedule.specs.Front.{Asks, nothing, command, packet, move, Outcome, Done, pumped, admitted, accepted, parked_at, refused, with_command, offer_command, parks, with_packet, park_packet, send_packet_at, send_packet, is_front, data_ordered, data_offer_at, data_offer, arrived_first, offer_packet, control_called, moved, control_recalled, move_slot, line_done}
use Rattle.epoch_schedule.specs.Schedule.{Driven, turned, line_of, behind_line, outcomes}
use Rattle.epoch_schedule.specs.Tallies.{Tally, Tallies, no_tally, with_command_line, with_packet_line, with_move, tallies_after, may_have, IsDue, AreDue, EachOutcomeIsDue}
use Rattle.epoch_schedule.proofs.Keeping.{put_each, cond_keeps, cond_gives, fold_keeps}
use Rattle.epoch_schedule.proofs.Fitting.{length-push}
use Rattle.epoch_schedule.proofs.Steps.{order_slot, orders_of, owed_by, is_called}
use Rattle.epoch_schedule.proofs.Worlds.{slot_at-own, absent-called, pumped_keeps, control_recalled_keeps, turned_keeps}
use Rattle.epoch_schedule.proofs.Going.{Goes, owed, world_stays, parks_less, orders-more, one_order, going_steps}
use Rattle.epoch_schedule.proofs.Tallying.{HoldAs, HoldsTally, Holds, Owes, unseen, allowed, changed, changed-own, seen_too, seen_most, seen_allows, hold_goes, owes_goes, goes_holds, offer_goes, owes_more, allowed_more, allowed_own, hold_changed, admitted_holds}

-- a line of one slot, in two steps
both_steps : (test : Bool) (first second both : Tally → Tally) (tally : Tally) → second (first tally) ≡ both tally
    → cond test (second (cond test (first tally) tally)) (cond test (first tally) tally)
    ≡ cond test (both tally) tally
both_steps true first second both tally same = same
both_steps false first second both tally same = refl

hold_alike : (some others : Tallies) (world : World) → ((s : ℕ) → some s ≡ others s) → Holds some world
    → Holds others world
hold_alike some others world same holds = record {
  slots = λ s. subst (HoldsTally (slot_at world s)) (same s) (holds.slots s);
  lanes = λ slice s.
      let few = holds.lanes slice s in
      let alike = ap may_have (same s) in
      omega (arith, few, alike);
}

-- what a line leaves
pub record LineHolds (rooms : Rooms) (tallies : Tallies) (asks : Asks) (done : Done) : Type 0 where
  pub holds : Holds (tallies_after tallies asks done.outcome) done.world
  pub due : IsDue rooms tallies asks done.outcome

abbrev pub seen_at : ℕ → Tallies → Tallies
seen_at own tallies = changed own seen_too tallies

own_tally : (tallies : Tallies) (world : World) (own : ℕ) → Holds (seen_at own tallies) world
    → HoldsTally (slot_at world own) (seen_too (tallies own))
own_tally tallies world own holds =
    subst (HoldsTally (slot_at world own)) (changed-own own seen_too tallies) (holds.slots own)

-- a command
abbrev pub taken_plainly : Outcome
taken_plainly = record { taken = true; parked = false }

command_taken : (tallies : Tallies) (world : World) (own : ℕ) → Holds (seen_at own tallies) world
    → Holds (tallies_after tallies (command own) taken_plainly) (on_slot world own with_command)
command_taken tallies world own holds =
    let more : Tally → Tally = λ tally. with_command_line tally taken_plainly in
    let slot = holds.slots own in
    let own_is = changed-own own seen_too tallies in
    let made = slot.control_is ∙ ap (λ (tally : Tally). not tally.seen) own_is in
    let arrived = slot.data_is ∙ ap (λ (tally : Tally). not tally.seen) own_is in
    let count = slot.commands in
    let push = length-push (slot_at world own).commands (record {
      hop = (slot_at world own).hop;
      floor = (slot_at world own).packets_before;
    }) in
    hold_alike (changed own more (seen_at own tallies)) (tallies_after tallies (command own) taken_plainly)
    (on_slot world own with_command)
    (λ s. both_steps (own == s) seen_too more more (tallies s) refl)
    (record {
      slots = hold_changed (seen_at own tallies) world own more with_command
          (record {
            commands = omega (arith, push, count);
            packets = slot.packets;
            moves = slot.moves;
            control_is = made;
            data_is = arrived;
            queued = slot.queued;
            parked = slot.parked;
            called = slot.called;
          }) holds.slots;
      lanes = owes_more (allowed (seen_at own tallies)) (allowed (changed own more (seen_at own tallies))) world own 0
          with_command (allowed_more (seen_at own tallies) own more seen_allows)
          (let grows = allowed_more (seen_at own tallies) own more seen_allows own in omega (arith, grows))
          (omega arith) holds.lanes;
    })

command_due : (rooms : Rooms) (tallies : Tallies) (world : World) (own : ℕ) → Holds (seen_at own tallies) world
    → LineHolds rooms tallies (command own) (offer_command rooms world own)
command_due rooms tallies world own holds =
    cond_gives (LineHolds rooms tallies (command own))
    (nat_lt (length (slot_at world own).commands - (slot_at world own).taken) rooms.room)
    (accepted (on_slot world own with_command)) (refused world)
    (λ fits. record { holds = command_taken tallies world own holds; due = λ no. absurd (true≢false no) })
    (λ full. record {
      holds = holds;
      due = λ no.
          let many = ltb-false (length (slot_at world own).commands - (slot_at world own).taken) rooms.room full in
          let count = (own_tally tallies world own holds).commands in
          omega (arith, many, count);
    })

-- a packet that waits
abbrev pub taken_to_wait : Outcome
taken_to_wait = record { taken = true; parked = true }

abbrev pub waiting : SlotNow → SlotNow
waiting slot = record (with_packet slot) { queued = slot.queued + 1 }

packet_allows : (outcome : Outcome) → outcome.taken ≡ true → (tally : Tally)
    → may_have tally + 1 ≤ may_have (with_packet_line tally outcome)
packet_allows outcome taken tally =
    let few = seen_most tally.seen in
    let count = ap {B = ℕ} (λ test. cond test (tally.packets + 1) tally.packets) taken in
    omega (arith, few, count)

packet_parked : (tallies : Tallies) (world : World) (own : ℕ) → parks (slot_at world own) ≡ true
    → Holds (seen_at own tallies) world
    → Holds (tallies_after tallies (packet own) taken_to_wait) (on_slot world own waiting)
packet_parked tallies world own waits holds =
    let more : Tally → Tally = λ tally. with_packet_line tally taken_to_wait in
    let slot = holds.slots own in
    let own_is = changed-own own seen_too tallies in
    let made = slot.control_is ∙ ap (λ (tally : Tally). not tally.seen) own_is in
    let arrived = slot.data_is ∙ ap (λ (tally : Tally). not tally.seen) own_is in
    let count = slot.packets in
    let few = slot.queued in
    let push = length-push (slot_at world own).packets (slot_at world own).commands_before in
    let before = seen_at own tallies in
    let grows : (tally : Tally) → may_have tally ≤ may_have (more tally) =
    λ tally. let one = packet_allows taken_to_wait refl tally in omega (arith, one) in
    hold_alike (changed own more before) (tallies_after tallies (packet own) taken_to_wait)
    (on_slot world own waiting)
    (λ s. both_steps (own == s) seen_too more more (tallies s) refl)
    (record {
      slots = hold_changed before world own more waiting
          (record {
            commands = slot.commands;
            packets = omega (arith, push, count);
            moves = slot.moves;
            control_is = made;
            data_is = arrived;
            queued = omega (arith, push, few);
            parked = λ is. and_from (before own).parked true (slot.parked waits) refl;
            called = slot.called;
          }) holds.slots;
      lanes = owes_more (allowed before) (allowed (changed own more before)) world own 1 waiting
          (allowed_more before own more grows)
          (allowed_own before own 1 more (packet_allows taken_to_wait refl (before own)))
          (omega arith) holds.lanes;
    })

some_moves : (tallies : Tallies) (world : World) (own : ℕ) → parks (slot_at world own) ≡ true
    → Holds (seen_at own tallies) world → 0 < (tallies own).moves
some_moves tallies world own waits holds =
    let slot = slot_at world own in
    let parts = and_parts (nat_lt 0 slot.hop) (not (is_placed slot.data_half) || nat_lt 0 slot.queued) waits in
    let some = ltb-true 0 slot.hop parts.0 in
    let count = (own_tally tallies world own holds).moves in
    omega (arith, some, count)

park_due : (rooms : Rooms) (tallies : Tallies) (world : World) (own : ℕ) → parks (slot_at world own) ≡ true
    → Holds (seen_at own tallies) world → LineHolds rooms tallies (packet own) (park_packet rooms world own)
park_due rooms tallies world own waits holds =
    let slot = own_tally tallies world own holds in
    cond_gives (LineHolds rooms tallies (packet own)) (nat_lt (slot_at world own).queued rooms.room)
    (parked_at (on_slot world own waiting)) (refused world)
    (λ fits. record {
      holds = packet_parked tallies world own waits holds;
      due = record {
        parked = λ is. (some_moves tallies world own waits holds, slot.parked waits);
        refused = λ no. absurd (true≢false no);
      };
    })
    (λ full. record {
      holds = holds;
      due = record {
        parked = λ is. absurd (true≢false (sym is));
        refused = λ no. inr (
          some_moves tallies world own waits holds,
          (let many = ltb-false (slot_at world own).queued rooms.room full in
              let few = slot.queued in
              let count = slot.packets in
              omega (arith, many, few, count)),
        );
      };
    })

-- a packet that is sent
one_at : (own s : ℕ) (most more : ℕ → ℕ) → ((m : ℕ) → most m ≤ more m) → most own + 1 ≤ more own
    → most s + cond (own == s) 1 0 ≤ more s
one_at own s most more all here =
    cond_gives (λ n. most s + n ≤ more s) (own == s) 1 0
    (λ is. subst (λ m. most m + 1 ≤ more m) (eqb-true own s is) here)
    (λ other. let few = all s in omega (arith, few))

sent_owes : (most more : ℕ → ℕ) (world : World) (slice own : ℕ)
    → ((m : ℕ) → most m ≤ more m) → most own + 1 ≤ more own → Owes most world
    → Owes more
    (on_slot (on_data world slice (λ worker. record worker { orders = worker.orders ++ item own ∷ [] })) own
    with_packet)
sent_owes most more world slice own all here lanes d m =
    let lane = put_each (λ d worker. (m : ℕ)
    → orders_of m worker.orders ≤ orders_of m (data_at world d).orders + cond (own == m) 1 0)
    fresh_data world.datas slice
    (record (data_at world slice) { orders = (data_at world slice).orders ++ item own ∷ [] }) (λ d m. omega arith)
    (λ m.
    let parts = orders-more m (data_at world slice).orders (item own ∷ []) in
    let one = one_order m own (item own) refl in
    omega (arith, parts, one)) d m in
    let slot = put_each (λ m slot. owed slot ≤ owed (slot_at world m)) fresh_slot world.slots own
    (with_packet (slot_at world own)) (λ m. omega arith) (omega arith) m in
    let few = lanes d m in
    let some = one_at own m most more all here in
    omega (arith, lane, slot, few, some)

packet_sent : (tallies : Tallies) (world : World) (slice own : ℕ) → parks (slot_at world own) ≡ false
    → Holds (seen_at own tallies) world
    → Holds (tallies_after tallies (packet own) taken_plainly)
    (on_slot (on_data world slice (λ worker. record worker { orders = worker.orders ++ item own ∷ [] })) own
    with_packet)
packet_sent tallies world slice own stays holds =
    let more : Tally → Tally = λ tally. with_packet_line tally taken_plainly in
    let slot = holds.slots own in
    let own_is = changed-own own seen_too tallies in
    let made = slot.control_is ∙ ap (λ (tally : Tally). not tally.seen) own_is in
    let arrived = slot.data_is ∙ ap (λ (tally : Tally). not tally.seen) own_is in
    let count = slot.packets in
    let few = slot.queued in
    let push = length-push (slot_at world own).packets (slot_at world own).commands_before in
    let before = seen_at own tallies in
    let given = on_data world slice (λ worker. record worker { orders = worker.orders ++ item own ∷ [] }) in
    let grows : (tally : Tally) → may_have tally ≤ may_have (more tally) =
    λ tally. let one = packet_allows taken_plainly refl tally in omega (arith, one) in
    hold_alike (changed own more before) (tallies_after tallies (packet own) taken_plainly)
    (on_slot given own with_packet)
    (λ s. both_steps (own == s) seen_too more more (tallies s) refl)
    (record {
      slots = hold_changed before given own more with_packet
          (record {
            commands = slot.commands;
            packets = omega (arith, push, count);
            moves = slot.moves;
            control_is = made;
            data_is = arrived;
            queued = omega (arith, push, few);
            parked = λ is. absurd (true≢false (sym is ∙ stays));
            called = slot.called;
          }) holds.slots;
      lanes = sent_owes (allowed before) (allowed (changed own more before)) world slice own
          (allowed_more before own more grows)
          (allowed_own before own 1 more (packet_allows taken_plainly refl (before own))) holds.lanes;
    })

-- a full lane
no_room : {X : Type 0} (room : ℕ) (xs : List X) → has_room room xs ≡ false → room ≤ length xs
no_room room xs full = ltb-false (length xs) room full

lane_full : (rooms : Rooms) (tallies : Tallies) (world : World) (slice own : ℕ)
    → rooms.lane ≤ length (data_at world slice).orders → Holds (seen_at own tallies) world
    → LineHolds rooms tallies (packet own) (refused world)
lane_full rooms tallies world slice own full holds = record {
  holds = holds;
  due = record {
    parked = λ is. absurd (true≢false (sym is));
    refused = λ no. inl (record {
      slots = map order_slot (data_at world slice).orders;
      full = let same = length-map (data_at world slice).orders order_slot in omega (arith, full, same);
      each = λ s. let few = holds.lanes slice s in omega (arith, few);
    });
  };
}

parks_called : (slot : SlotNow) → is_called slot.data_half ≡ true → is_placed slot.data_half ≡ false → 0 < slot.hop
    → parks slot ≡ true
parks_called slot called away some =
    and_from (nat_lt 0 slot.hop) (not (is_placed slot.data_half) || nat_lt 0 slot.queued) (lt-ltb 0 slot.hop some)
    (ap (λ test. not test || nat_lt 0 slot.queued) away)

-- Behind the offer of a half that is at the front, the lane is full where the half is still there.
pub record FullFor (rooms : Rooms) (world : World) : Type 0 where
  pub slice : ℕ
  pub full : rooms.lane ≤ length (data_at world slice).orders

abbrev pub FullWhereFront : Rooms → ℕ → World → Type 0
FullWhereFront rooms s world = is_front (slot_at world s).data_half ≡ true → FullFor rooms world

ordered_full : (rooms : Rooms) (world : World) (slice s : ℕ) (order : DataOrder)
    → FullWhereFront rooms s (data_ordered rooms world slice s order (placed slice))
ordered_full rooms world slice s order =
    let given = on_data world slice (λ worker. record worker { orders = worker.orders ++ order ∷ [] }) in
    cond_gives (FullWhereFront rooms s) (has_room rooms.lane (data_at world slice).orders)
    (on_slot given s (λ slot. record slot { data_half = placed slice })) world
    (λ fits is.
    let there = ap (λ (slot : SlotNow). is_front slot.data_half)
    (slot_at-own given s (λ slot. record slot { data_half = placed slice })) in
    absurd (true≢false (sym is ∙ there)))
    (λ full is. record { slice = slice; full = no_room rooms.lane (data_at world slice).orders full })

offered_full : (rooms : Rooms) (bounds : ℕ → ℕ) (world : World) (s : ℕ) (standing : Standing)
    → is_front standing ≡ true → FullWhereFront rooms s (data_offer_at rooms bounds world s standing)
offered_full rooms bounds world s absent here = absurd (true≢false (sym here))
offered_full rooms bounds world s front here =
    ordered_full rooms world (destination bounds s (slot_at world s)) s (arrive s)
offered_full rooms bounds world s (placed slice) here = absurd (true≢false (sym here))
offered_full rooms bounds world s (recalled slice until) here = absurd (true≢false (sym here))
offered_full rooms bounds world s leaving here = absurd (true≢false (sym here))

arrived_full : (rooms : Rooms) (bounds : ℕ → ℕ) (world : World) (s : ℕ)
    → FullWhereFront rooms s (arrived_first rooms bounds world s)
arrived_full rooms bounds world s =
    cond_gives (FullWhereFront rooms s) (is_front (slot_at world s).data_half) (data_offer rooms bounds world s) world
    (λ here. offered_full rooms bounds world s (slot_at world s).data_half here)
    (λ other is. absurd (true≢false (sym is ∙ other)))

send_at_due : (rooms : Rooms) (tallies : Tallies) (world : World) (own : ℕ) (standing : Standing)
    → (slot_at world own).data_half ≡ standing → parks (slot_at world own) ≡ false → FullWhereFront rooms own world
    → Holds (seen_at own tallies) world
    → LineHolds rooms tallies (packet own) (send_packet_at rooms world own standing)
send_at_due rooms tallies world own absent is stays full holds =
    absurd (true≢false (ap is_absent (sym is) ∙ (own_tally tallies world own holds).data_is))
send_at_due rooms tallies world own front is stays full holds =
    let lane = full (ap is_front is) in
    lane_full rooms tallies world lane.slice own lane.full holds
send_at_due rooms tallies world own (placed slice) is stays full holds =
    let given = on_data world slice (λ worker. record worker { orders = worker.orders ++ item own ∷ [] }) in
    cond_gives (LineHolds rooms tallies (packet own)) (has_room rooms.lane (data_at world slice).orders)
    (accepted (on_slot given own with_packet)) (refused world)
    (λ fits. record {
      holds = packet_sent tallies world slice own stays holds;
      due = record {
        parked = λ no. absurd (true≢false (sym no));
        refused = λ no. absurd (true≢false no);
      };
    })
    (λ none. lane_full rooms tallies world slice own (no_room rooms.lane (data_at world slice).orders none) holds)
send_at_due rooms tallies world own (recalled slice until) is stays full holds =
    let called = ap is_called is in
    absurd (true≢false (sym (parks_called (slot_at world own) called (ap is_placed is)
    ((own_tally tallies world own holds).called called)) ∙ stays))
send_at_due rooms tallies world own leaving is stays full holds =
    let called = ap is_called is in
    absurd (true≢false (sym (parks_called (slot_at world own) called (ap is_placed is)
    ((own_tally tallies world own holds).called called)) ∙ stays))

stays_so : (old new : SlotNow) → (parks new ≡ true → parks old ≡ true) → parks old ≡ false → (test : Bool)
    → parks new ≡ test → test ≡ false
stays_so old new less stays true is = sym (less is) ∙ stays
stays_so old new less stays false is = refl

packet_due : (rooms : Rooms) (bounds : ℕ → ℕ) (tallies : Tallies) (world : World) (own : ℕ)
    → Holds (seen_at own tallies) world
    → LineHolds rooms tallies (packet own) (offer_packet rooms bounds world own)
packet_due rooms bounds tallies world own holds =
    let arrived = arrived_first rooms bounds world own in
    let goes : Goes world arrived =
    cond_keeps (Goes world) (is_front (slot_at world own).data_half) (data_offer rooms bounds world own) world
    (offer_goes rooms bounds world own) (world_stays world) in
    cond_gives (LineHolds rooms tallies (packet own)) (parks (slot_at world own)) (park_packet rooms world own)
    (send_packet rooms arrived own)
    (λ waits. park_due rooms tallies world own waits holds)
    (λ stays. send_at_due rooms tallies arrived own (slot_at arrived own).data_half refl
    (stays_so (slot_at world own) (slot_at arrived own)
    (parks_less (slot_at world own) (slot_at arrived own) (goes.slots own)) stays (parks (slot_at arrived own)) refl)
    (arrived_full rooms bounds world own) (goes_holds (seen_at own tallies) world arrived goes holds))

-- a move
move_allows : (tally : Tally) → may_have tally + 2 ≤ may_have (with_move tally)
move_allows tally = omega arith

move_more : (tally : Tally) → may_have tally ≤ may_have (with_move tally)
move_more tally = omega arith

called_placed : (standing : Standing) → is_placed standing ≡ true
    → owed_by (control_called standing 0) ≡ owed_by standing + 2
called_placed absent is = absurd (true≢false (sym is))
called_placed front is = absurd (true≢false (sym is))
called_placed (placed slice) is = refl
called_placed (recalled slice until) is = absurd (true≢false (sym is))
called_placed leaving is = absurd (true≢false (sym is))

move_holds : (rooms : Rooms) (bounds : ℕ → ℕ) (tallies : Tallies) (world : World) (own slice : ℕ) → Holds tallies world
    → Holds (changed own with_move tallies) (move_slot rooms bounds world own slice)
move_holds rooms bounds tallies world own slice holds =
    let after = changed own with_move tallies in
    let first = on_slot world own (moved slice) in
    let second = control_recalled bounds first own in
    let old = holds.slots own in
    let hops = old.moves in
    let goes = control_recalled_keeps (Goes first) (going_steps first) bounds first own (world_stays first) in
    let slots_first : HoldAs (unseen after) (unseen after) after first =
    hold_changed tallies world own with_move (moved slice)
    (record {
      commands = old.commands;
      packets = old.packets;
      moves = omega (arith, hops);
      control_is = old.control_is;
      data_is = old.data_is;
      queued = old.queued;
      parked = λ is. refl;
      called = λ is. omega arith;
    }) holds.slots in
    let slots_second = hold_goes (unseen after) (unseen after) after first second goes slots_first in
    let owes_second : Owes (allowed tallies) second =
    owes_goes (allowed tallies) first second goes
    (owes_more (allowed tallies) (allowed tallies) world own 0 (moved slice) (λ s. omega arith) (omega arith)
    (omega arith) holds.lanes) in
    let grows = allowed_more tallies own with_move move_more in
    let change : SlotNow → SlotNow = λ slot. record slot { data_half = control_called slot.data_half 0 } in
    let third = on_slot second own change in
    cond_gives (Holds after) (is_placed (slot_at second own).data_half) (data_offer rooms bounds third own) second
    (λ placed_is.
    let now = slots_second own in
    let more = called_placed (slot_at second own).data_half placed_is in
    let hop_is = now.moves in
    let own_is = ap (λ (tally : Tally). tally.moves) (changed-own own with_move tallies) in
    let parked_is = ap (λ (tally : Tally). tally.parked) (changed-own own with_move tallies) in
    goes_holds after third (data_offer rooms bounds third own) (offer_goes rooms bounds third own)
    (record {
      slots = put_each (λ s slot. HoldsTally slot (after s)) fresh_slot second.slots own
          (change (slot_at second own)) slots_second
          (record {
            commands = now.commands;
            packets = now.packets;
            moves = now.moves;
            control_is = now.control_is;
            data_is = absent-called (slot_at second own).data_half 0 ∙ now.data_is;
            queued = now.queued;
            parked = λ is. parked_is;
            called = λ is. omega (arith, hop_is, own_is);
          });
      lanes = owes_more (allowed tallies) (allowed after) second own 2 change grows
          (allowed_own tallies own 2 with_move (move_allows (tallies own))) (omega (arith, more)) owes_second;
    }))
    (λ other. record {
      slots = slots_second;
      lanes = λ lane s.
          let few = owes_second lane s in
          let some = grows s in
          omega (arith, few, some);
    })

-- a line
line_due : (rooms : Rooms) (bounds : ℕ → ℕ) (tallies : Tallies) (world : World) (asks : Asks) → Holds tallies world
    → LineHolds rooms tallies asks (line_done rooms bounds world asks)
line_due rooms bounds tallies world nothing holds = record { holds = holds; due = tt }
line_due rooms bounds tallies world (command own) holds =
    command_due rooms tallies (admitted rooms bounds world own) own
    (admitted_holds rooms bounds tallies world own holds)
line_due rooms bounds tallies world (packet own) holds =
    packet_due rooms bounds tallies (admitted rooms bounds world own) own
    (admitted_holds rooms bounds tallies world own holds)
line_due rooms bounds tallies world (move own slice) holds =
    record { holds = move_holds rooms bounds tallies world own slice holds; due = tt }

are_due : (rooms : Rooms) (bounds : ℕ → ℕ) (tallies : Tallies) (world : World) (lines : List Driven)
    → Holds tallies world → AreDue rooms tallies lines (outcomes rooms bounds world lines)
are_due rooms bounds tallies world [] holds = tt
are_due rooms bounds tallies world (line ∷ lines) holds =
    let pump = pumped rooms bounds world in
    let ready = goes_holds tallies world pump
    (pumped_keeps (Goes world) (going_steps world) rooms bounds world (world_stays world)) holds in
    let done = line_of rooms bounds world line in
    let now = line_due rooms bounds tallies pump line.asks ready in
    let after = tallies_after tallies line.asks done.outcome in
    let behind = behind_line rooms bounds world line in
    let turns = fold_keeps (Goes done.world) (turned rooms)
    (turned_keeps (Goes done.world) (going_steps done.world) rooms) done.world line.turns (world_stays done.world) in (
      now.due,
      are_due rooms bounds after behind lines (goes_holds after done.world behind turns now.holds),
    )

pub each_outcome_is_due : EachOutcomeIsDue
each_outcome_is_due rooms bounds lines =
    are_due rooms bounds (λ s. no_tally) start lines (record {
      slots = λ s. record {
        commands = refl;
        packets = refl;
        moves = refl;
        control_is = refl;
        data_is = refl;
        queued = omega arith;
        parked = λ is. refl;
        called = λ is. absurd (true≢false (sym is));
      };
      lanes = λ slice s. omega arith;
    })
