-- What the halves of a slot do keeps its numbers right.
use Rattle.std.proofs.Common.{◌≡◌, ℕ, zero, suc, ◌+◌, ◌-◌, ◌<◌, ◌≤◌, ◌&&◌, Bool, true, false, nat_lt, nat_le, Option, Some, None, List, [], ◌∷◌, ◌++◌, map, length, drop, sum, get_or, refl, sym, ap, ◌∙◌, arith, true≢false, length-append, length-drop, get_or-drop}
use Rattle.std.specs.List.{prefix_len}
use Rattle.std.specs.Option.{unwrap_or}
use Rattle.std.proofs.lemmas.List.Sums.{prefix_len-le-length, prefix_len_stops, prefix_len_passes, sum_by-append}
use Rattle.std.proofs.lemmas.Bool.{cases_lt}
use Rattle.std.proofs.Common.{inl, inr}
use borrow.Author.Tests.{ltb-true, leb-true, leb-false}
use Rattle.pc_base.specs.declared.packet.Place.{Place}
use Rattle.pc_base.specs.declared.packet.Place.TheVariants.{Closing}
use Rattle.epoch_schedule.specs.Numbers.{times}
use Rattle.epoch_schedule.specs.Slots.{CommandTags, Met, SlotNow}
use Rattle.epoch_schedule.specs.Halves.{fits, batch_of, next_batch, apply_some, send, Worked, apply_batch, work_behind, control_work, floor_of, take_batch, learn_batch, learn_one, batches_learnt, learn, may_handle, handle, learn_all, close_one, closed}
use Rattle.epoch_schedule.specs.Accounts.{Account}
use Rattle.epoch_schedule.specs.Fits.{floor_at, packet_at, Floors, Handles, SlotFits}
use Rattle.epoch_schedule.proofs.Keeping.{cond_gives, cond_keeps, times_keeps}
use Rattle.epoch_schedule.proofs.Fitting.{one_handled, more_learnt}

-- a batch is of accepted commands
batch_few : (hop : ℕ) (commands : List CommandTags) → batch_of hop commands ≤ length commands
batch_few hop [] = omega arith
batch_few hop (first ∷ commands) =
    let few = prefix_len-le-length (fits hop first.floor) (first ∷ commands) in omega (arith, few)

applied_few : (hop applied : ℕ) (commands : List CommandTags) → applied ≤ length commands
    → applied + batch_of hop (drop applied commands) ≤ length commands
applied_few hop applied commands few =
    let some = batch_few hop (drop applied commands) in
    let rest = length-drop applied commands in
    omega (arith, some, rest, few)

sum-push : (ns : List ℕ) (n : ℕ) → sum (ns ++ n ∷ []) ≡ sum ns + n
sum-push ns n = let parts = sum_by-append (λ (x : ℕ). x) ns (n ∷ []) in omega (arith, parts)

sum-first : (n : ℕ) (ns : List ℕ) → sum (n ∷ ns) ≡ n + sum ns
sum-first n ns = let parts = sum_by-append (λ (x : ℕ). x) (n ∷ []) ns in omega (arith, parts)

send_fits : (room : ℕ) (slot : SlotNow) (n : ℕ) → unwrap_or slot.unsent 0 ≡ 0
    → slot.learnt + unwrap_or slot.batch 0 + sum slot.sent + n ≡ slot.applied
    → slot.applied ≤ length slot.commands
    → Floors slot.commands slot.packets slot.commands_before slot.packets_before
    → Handles slot.commands slot.packets slot.learnt slot.met
    → SlotFits (send room slot n)
send_fits room slot zero none all few floors handles = record {
  sizes = record { all = omega (arith, none, all); few = few };
  floors = floors;
  handles = handles;
}
send_fits room slot (suc n) none all few floors handles =
    let more = sum-push slot.sent (suc n) in
    cond_keeps SlotFits (nat_lt (length slot.sent) room) (record slot { sent = slot.sent ++ suc n ∷ [] })
    (record slot { unsent = Some (suc n) })
    (record {
      sizes = record { all = omega (arith, none, all, more); few = few };
      floors = floors;
      handles = handles;
    })
    (record { sizes = record { all = all; few = few }; floors = floors; handles = handles })

apply_fits : (room : ℕ) (slot : SlotNow) → unwrap_or slot.unsent 0 ≡ 0 → SlotFits slot
    → SlotFits (apply_batch room slot)
apply_fits room slot none holds =
    let all = holds.sizes.all in
    send_fits room (apply_some slot (next_batch slot)) (next_batch slot) none (omega (arith, all, none))
    (applied_few slot.arrived slot.applied slot.commands holds.sizes.few) holds.floors holds.handles

work_fits : (room : ℕ) (slot : SlotNow) (unsent : Option ℕ) → slot.unsent ≡ unsent → SlotFits slot
    → SlotFits (work_behind room slot unsent).slot
work_fits room slot None is holds = apply_fits room slot (ap (λ u. unwrap_or u 0) is) holds
work_fits room slot (Some n) is holds =
    let all = holds.sizes.all in
    let kept : unwrap_or slot.unsent 0 ≡ n = ap (λ u. unwrap_or u 0) is in
    let more = sum-push slot.sent n in
    let sent : SlotNow = record slot { unsent = None; sent = slot.sent ++ n ∷ [] } in
    cond_keeps (λ (w : Worked). SlotFits w.slot) (nat_lt (length slot.sent) room)
    (record { slot = apply_batch room sent; worked = true }) (record { slot = slot; worked = false })
    (apply_fits room sent refl (record {
      sizes = record { all = omega (arith, all, kept, more); few = holds.sizes.few };
      floors = holds.floors;
      handles = holds.handles;
    })) holds

pub control_fits : (room : ℕ) (slot : SlotNow) → SlotFits slot → SlotFits (control_work room slot).slot
control_fits room slot holds = work_fits room slot slot.unsent refl holds

-- a data half learns
take_fits : (slot : SlotNow) (batch : Option ℕ) (sent : List ℕ) → slot.batch ≡ batch → slot.sent ≡ sent
    → SlotFits slot → SlotFits (take_batch slot batch sent)
take_fits slot (Some n) sent is are holds = holds
take_fits slot None [] is are holds = holds
take_fits slot None (n ∷ sent) is are holds =
    let all = holds.sizes.all in
    let none : unwrap_or slot.batch 0 ≡ 0 = ap (λ b. unwrap_or b 0) is in
    let parts = ap sum are ∙ sum-first n sent in
    record {
      sizes = record { all = omega (arith, all, none, parts); few = holds.sizes.few };
      floors = holds.floors;
      handles = holds.handles;
    }

batch_learnt : (slot : SlotNow) (n : ℕ) → slot.batch ≡ Some n
    → floor_at slot.commands (slot.learnt + n - 1) ≤ length slot.met
    → SlotFits slot → SlotFits (record slot { batch = None; learnt = slot.learnt + n })
batch_learnt slot n is met holds =
    let all = holds.sizes.all in
    let few = holds.sizes.few in
    let kept : unwrap_or slot.batch 0 ≡ n = ap (λ b. unwrap_or b 0) is in
    let known : slot.learnt + n ≤ length slot.commands = omega (arith, all, few, kept) in
    record {
      sizes = record { all = omega (arith, all, kept); few = few };
      floors = holds.floors;
      handles = more_learnt slot.commands slot.packets slot.learnt (slot.learnt + n) slot.met (omega arith) known
          (λ j below.
          let rise = holds.floors.rise j (slot.learnt + n - 1) (omega (arith, below))
          (omega (arith, below, known)) in
          omega (arith, rise, met)) holds.handles;
    }

learn_batch_fits : (slot : SlotNow) (batch : Option ℕ) → slot.batch ≡ batch → SlotFits slot
    → SlotFits (learn_batch slot batch)
learn_batch_fits slot None is holds = holds
learn_batch_fits slot (Some n) is holds =
    cond_gives SlotFits (nat_le (floor_of slot (slot.learnt + n - 1)) (length slot.met))
    (record slot { batch = None; learnt = slot.learnt + n }) slot
    (λ met. batch_learnt slot n is (leb-true (floor_of slot (slot.learnt + n - 1)) (length slot.met) met) holds)
    (λ other. holds)

learn_one_fits : (slot : SlotNow) → SlotFits slot → SlotFits (learn_one slot)
learn_one_fits slot holds =
    let taken = take_batch slot slot.batch slot.sent in
    learn_batch_fits taken taken.batch refl (take_fits slot slot.batch slot.sent refl refl holds)

pub learn_fits : (slot : SlotNow) → SlotFits slot → SlotFits (learn slot)
unfolding learn
learn_fits slot holds = times_keeps SlotFits learn_one learn_one_fits batches_learnt slot holds

-- and handles a packet that may be handled
both_true : (one other : Bool) → (one && other) ≡ true → (one ≡ true) × (other ≡ true)
both_true true other is = (refl, is)
both_true false other is = absurd (true≢false (sym is))

pub handle_fits : (place : Place) (slot : SlotNow) → may_handle slot ≡ true → SlotFits slot
    → SlotFits (handle place slot)
handle_fits place slot may holds =
    let tests = both_true (nat_lt (length slot.met) (length slot.packets))
    (nat_le (get_or slot.packets (length slot.met) 0) slot.learnt) may in
    record {
      sizes = holds.sizes;
      floors = holds.floors;
      handles = one_handled slot.commands slot.packets slot.learnt slot.met
          (record { commands = slot.learnt; place = place }) refl
          (ltb-true (length slot.met) (length slot.packets) tests.0)
          (leb-true (get_or slot.packets (length slot.met) 0) slot.learnt tests.1) holds.handles;
    }

-- As the epoch closes, all that a next packet waits for is learnt.
module _ (slot : SlotNow) (floors : Floors slot.commands slot.packets slot.commands_before slot.packets_before)
    (handles : Handles slot.commands slot.packets slot.learnt slot.met) where
  all_known : (learn_all slot).learnt ≤ length slot.commands
  all_known =
      let few = prefix_len-le-length (λ (tags : CommandTags). nat_le tags.floor (length slot.met))
      (drop slot.learnt slot.commands) in
      let rest = length-drop slot.learnt slot.commands in
      let known = handles.known in
      omega (arith, few, rest, known)

  all_wait : (j : ℕ) → j < (learn_all slot).learnt → floor_at slot.commands j ≤ length slot.met
  all_wait j below = elim (cases_lt j slot.learnt) [
    | inl old ↦ handles.learnt_wait j old
    | inr new ↦
        let passes = prefix_len_passes (λ (tags : CommandTags). nat_le tags.floor (length slot.met))
        (drop slot.learnt slot.commands) (j - slot.learnt) (record { hop = 0; floor = 0 }) (omega (arith, below, new)) in
        let is : slot.learnt + (j - slot.learnt) ≡ j = omega (arith, new) in
        let at = ap (λ (tags : CommandTags). tags.floor)
        (get_or-drop slot.learnt slot.commands (j - slot.learnt) (record { hop = 0; floor = 0 }))
        ∙ ap (floor_at slot.commands) is in
        let low = leb-true _ _ passes in
        omega (arith, at, low)
  ]

  all_reach : length slot.met < length slot.packets → packet_at slot.packets (length slot.met) ≤ (learn_all slot).learnt
  all_reach next = elim (cases_lt (learn_all slot).learnt (packet_at slot.packets (length slot.met))) [
    | inl short ↦
        let wait = floors.packets_wait (length slot.met) next in
        let rest = length-drop slot.learnt slot.commands in
        let stops = prefix_len_stops (λ (tags : CommandTags). nat_le tags.floor (length slot.met))
        (drop slot.learnt slot.commands) (record { hop = 0; floor = 0 }) (omega (arith, short, wait, rest)) in
        let at = ap (λ (tags : CommandTags). tags.floor)
        (get_or-drop slot.learnt slot.commands (prefix_len (λ (tags : CommandTags). nat_le tags.floor (length slot.met))
        (drop slot.learnt slot.commands)) (record { hop = 0; floor = 0 })) in
        let early = floors.early (length slot.met) (learn_all slot).learnt next short in
        let high = leb-false _ _ stops in
        absurd (omega (arith, at, early, high))
    | inr enough ↦ enough
  ]

  pub learn_all_handles : Handles slot.commands slot.packets (learn_all slot).learnt slot.met
  learn_all_handles =
      more_learnt slot.commands slot.packets slot.learnt (learn_all slot).learnt slot.met (omega arith) all_known all_wait
      handles

  pub learn_all_reaches : length slot.met < length slot.packets
      → packet_at slot.packets (length slot.met) ≤ (learn_all slot).learnt
  learn_all_reaches = all_reach

-- a closed slot has the commands and packets of the open one, and all packets are handled
pub record IsClosed (before slot : SlotNow) : Type 0 where
  pub commands : slot.commands ≡ before.commands
  pub packets : slot.packets ≡ before.packets
  pub all : length slot.met ≡ length before.packets
  pub handles : Handles slot.commands slot.packets slot.learnt slot.met

close_steps : (n : ℕ) (slot : SlotNow) → Floors slot.commands slot.packets slot.commands_before slot.packets_before
    → Handles slot.commands slot.packets slot.learnt slot.met
    → length slot.met + n ≡ length slot.packets
    → IsClosed slot (times n close_one slot)
close_steps zero slot floors handles left = record {
  commands = refl;
  packets = refl;
  all = omega (arith, left);
  handles = handles;
}
close_steps (suc n) slot floors handles left =
    let next : length slot.met < length slot.packets = omega (arith, left) in
    let m : Met = record { commands = (learn_all slot).learnt; place = Closing } in
    let one = one_handled slot.commands slot.packets (learn_all slot).learnt slot.met m refl next
    (learn_all_reaches slot floors handles next) (learn_all_handles slot floors handles) in
    let more = length-append slot.met (m ∷ []) in
    let rest = close_steps n (close_one slot) floors one (omega (arith, left, more)) in
    record { commands = rest.commands; packets = rest.packets; all = rest.all; handles = rest.handles }

pub closes : (slot : SlotNow) → SlotFits slot → IsClosed slot (closed slot)
closes slot holds =
    let few = holds.handles.few in
    close_steps (length slot.packets - length slot.met) slot holds.floors holds.handles (omega (arith, few))

-- No half changes what was accepted.
pub record Tells (account : Account) (slot : SlotNow) : Type 0 where
  pub commands_are : map (λ (tags : CommandTags). tags.floor) slot.commands ≡ account.commands
  pub packets_are : slot.packets ≡ account.packets
  pub commands_before_are : slot.commands_before ≡ account.commands_before
  pub packets_before_are : slot.packets_before ≡ account.packets_before

send_still : (room : ℕ) (account : Account) (slot : SlotNow) (n : ℕ) → Tells account slot
    → Tells account (send room slot n)
send_still room account slot zero tells = tells
send_still room account slot (suc n) tells =
    cond_keeps (Tells account) (nat_lt (length slot.sent) room)
    (record slot { sent = slot.sent ++ suc n ∷ [] }) (record slot { unsent = Some (suc n) })
    (record {
      commands_are = tells.commands_are;
      packets_are = tells.packets_are;
      commands_before_are = tells.commands_before_are;
      packets_before_are = tells.packets_before_are;
    })
    (record {
      commands_are = tells.commands_are;
      packets_are = tells.packets_are;
      commands_before_are = tells.commands_before_are;
      packets_before_are = tells.packets_before_are;
    })

apply_still : (room : ℕ) (account : Account) (slot : SlotNow) → Tells account slot
    → Tells account (apply_batch room slot)
apply_still room account slot tells =
    send_still room account (apply_some slot (next_batch slot)) (next_batch slot) (record {
      commands_are = tells.commands_are;
      packets_are = tells.packets_are;
      commands_before_are = tells.commands_before_are;
      packets_before_are = tells.packets_before_are;
    })

work_still : (room : ℕ) (account : Account) (slot : SlotNow) (unsent : Option ℕ) → Tells account slot
    → Tells account (work_behind room slot unsent).slot
work_still room account slot None tells = apply_still room account slot tells
work_still room account slot (Some n) tells =
    let sent : SlotNow = record slot { unsent = None; sent = slot.sent ++ n ∷ [] } in
    cond_keeps (λ (w : Worked). Tells account w.slot) (nat_lt (length slot.sent) room)
    (record { slot = apply_batch room sent; worked = true }) (record { slot = slot; worked = false })
    (apply_still room account sent (record {
      commands_are = tells.commands_are;
      packets_are = tells.packets_are;
      commands_before_are = tells.commands_before_are;
      packets_before_are = tells.packets_before_are;
    })) tells

take_still : (account : Account) (slot : SlotNow) (batch : Option ℕ) (sent : List ℕ) → Tells account slot
    → Tells account (take_batch slot batch sent)
take_still account slot (Some n) sent tells = tells
take_still account slot None [] tells = tells
take_still account slot None (n ∷ sent) tells = record {
  commands_are = tells.commands_are;
  packets_are = tells.packets_are;
  commands_before_are = tells.commands_before_are;
  packets_before_are = tells.packets_before_are;
}

learn_batch_still : (account : Account) (slot : SlotNow) (batch : Option ℕ) → Tells account slot
    → Tells account (learn_batch slot batch)
learn_batch_still account slot None tells = tells
learn_batch_still account slot (Some n) tells =
    cond_keeps (Tells account) (nat_le (floor_of slot (slot.learnt + n - 1)) (length slot.met))
    (record slot { batch = None; learnt = slot.learnt + n }) slot
    (record {
      commands_are = tells.commands_are;
      packets_are = tells.packets_are;
      commands_before_are = tells.commands_before_are;
      packets_before_are = tells.packets_before_are;
    }) tells

learn_one_still : (account : Account) (slot : SlotNow) → Tells account slot → Tells account (learn_one slot)
learn_one_still account slot tells =
    let taken = take_batch slot slot.batch slot.sent in
    learn_batch_still account taken taken.batch (take_still account slot slot.batch slot.sent tells)

learn_still : (account : Account) (slot : SlotNow) → Tells account slot → Tells account (learn slot)
unfolding learn
learn_still account slot tells =
    times_keeps (Tells account) learn_one (learn_one_still account) batches_learnt slot tells

-- a slot whose numbers are right, with the account of its lines
pub record Counted (account : Account) (slot : SlotNow) : Type 0 where
  pub fits : SlotFits slot
  pub tells : Tells account slot

pub counted_work : (account : Account) (room : ℕ) (slot : SlotNow) → Counted account slot
    → Counted account (control_work room slot).slot
counted_work account room slot holds = record {
  fits = control_fits room slot holds.fits;
  tells = work_still room account slot slot.unsent holds.tells;
}

pub counted_learn : (account : Account) (slot : SlotNow) → Counted account slot → Counted account (learn slot)
counted_learn account slot holds =
    record { fits = learn_fits slot holds.fits; tells = learn_still account slot holds.tells }

pub counted_handle : (account : Account) (place : Place) (slot : SlotNow) → may_handle slot ≡ true
    → Counted account slot → Counted account (handle place slot)
counted_handle account place slot may holds =
    let tells = holds.tells in
    record {
      fits = handle_fits place slot may holds.fits;
      tells = record {
        commands_are = tells.commands_are;
        packets_are = tells.packets_are;
        commands_before_are = tells.commands_before_are;
        packets_before_are = tells.packets_before_are;
      };
    }
