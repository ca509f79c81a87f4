-- What holds of the world behind lines, and still where a slot's first line makes its halves.
use Rattle.std.proofs.Common.{◌≡◌, ℕ, ◌+◌, ◌<◌, ◌≤◌, ◌==◌, not, Bool, true, false, length, cond, refl, sym, ap, subst, ◌∙◌, arith, true≢false}
use Rattle.std.proofs.lemmas.Bool.{eqb-true}
use Rattle.epoch_schedule.specs.Slots.{Standing, absent, front, placed, recalled, leaving, is_placed, is_absent, SlotNow, fresh_slot}
use Rattle.epoch_schedule.specs.World.{World, Rooms, slot_at, on_slot, data_at}
use Rattle.epoch_schedule.specs.Front.{control_made, control_offer, data_made, made, admitted, parks, data_offer}
use Rattle.epoch_schedule.specs.Tallies.{Tally, Tallies, may_have}
use Rattle.epoch_schedule.proofs.Keeping.{put_each, put_others, eqb_same, cond_gives}
use Rattle.epoch_schedule.proofs.Steps.{orders_of, is_called}
use Rattle.epoch_schedule.proofs.Worlds.{control_offer_keeps, data_offer_keeps}
use Rattle.epoch_schedule.proofs.Going.{Kept, SlotGoes, Goes, owed, load, world_stays, parks_still, parks_less, going_steps}

-- a slot behind lines that say this of it, and whether it has halves
pub record SlotHolds (no_control no_data : Bool) (tally : Tally) (slot : SlotNow) : Type 0 where
  pub commands : length slot.commands ≡ tally.commands
  pub packets : length slot.packets ≡ tally.packets
  pub moves : slot.hop ≡ tally.moves
  pub control_is : is_absent slot.control ≡ no_control
  pub data_is : is_absent slot.data_half ≡ no_data
  pub queued : slot.queued ≤ length slot.packets
  pub parked : parks slot ≡ true → tally.parked ≡ true
  pub called : is_called slot.data_half ≡ true → 0 < slot.hop

slot_goes : (no_control no_data : Bool) (tally : Tally) (old new : SlotNow) → SlotGoes old new
    → SlotHolds no_control no_data tally old → SlotHolds no_control no_data tally new
slot_goes no_control no_data tally old new goes holds =
    let kept = goes.kept in
    let fewer = goes.queued in
    let few = holds.queued in
    let packets = ap (λ (k : Kept). length k.packets) kept in
    let hop = ap (λ (k : Kept). k.hop) kept in
    record {
      commands = ap (λ (k : Kept). length k.commands) kept ∙ holds.commands;
      packets = packets ∙ holds.packets;
      moves = hop ∙ holds.moves;
      control_is = ap (λ (k : Kept). k.no_control) kept ∙ holds.control_is;
      data_is = ap (λ (k : Kept). k.no_data) kept ∙ holds.data_is;
      queued = omega (arith, fewer, few, packets);
      parked = λ is. holds.parked (parks_less old new goes is);
      called = λ is. let some = holds.called (goes.called is) in omega (arith, some, hop);
    }

abbrev pub HoldAs : (no_control no_data : ℕ → Bool) → Tallies → World → Type 0
HoldAs no_control no_data tallies world =
    (s : ℕ) → SlotHolds (no_control s) (no_data s) (tallies s) (slot_at world s)

abbrev pub unseen : Tallies → ℕ → Bool
unseen tallies s = not (tallies s).seen

abbrev pub Owes : (ℕ → ℕ) → World → Type 0
Owes most world = (slice s : ℕ) → load world slice s ≤ most s

abbrev pub allowed : Tallies → ℕ → ℕ
allowed tallies s = may_have (tallies s)

pub record Holds (tallies : Tallies) (world : World) : Type 0 where
  pub slots : HoldAs (unseen tallies) (unseen tallies) tallies world
  pub lanes : Owes (allowed tallies) world

pub hold_goes : (no_control no_data : ℕ → Bool) (tallies : Tallies) (old new : World) → Goes old new
    → HoldAs no_control no_data tallies old → HoldAs no_control no_data tallies new
hold_goes no_control no_data tallies old new goes all s =
    slot_goes (no_control s) (no_data s) (tallies s) (slot_at old s) (slot_at new s) (goes.slots s) (all s)

pub owes_goes : (most : ℕ → ℕ) (old new : World) → Goes old new → Owes most old → Owes most new
owes_goes most old new goes all slice s =
    let fewer = goes.lanes slice s in
    let few = all slice s in
    omega (arith, fewer, few)

pub goes_holds : (tallies : Tallies) (old new : World) → Goes old new → Holds tallies old → Holds tallies new
goes_holds tallies old new goes holds = record {
  slots = hold_goes (unseen tallies) (unseen tallies) tallies old new goes holds.slots;
  lanes = owes_goes (allowed tallies) old new goes holds.lanes;
}

-- what the front's steps are
pub offer_goes : (rooms : Rooms) (bounds : ℕ → ℕ) (world : World) (s : ℕ) → Goes world (data_offer rooms bounds world s)
offer_goes rooms bounds world s =
    data_offer_keeps (Goes world) (going_steps world) rooms bounds world s (world_stays world)

control_offer_goes : (bounds : ℕ → ℕ) (world : World) (s : ℕ) → Goes world (control_offer bounds world s)
control_offer_goes bounds world s =
    control_offer_keeps (Goes world) (going_steps world) bounds world s (world_stays world)

-- a slot changes, and may owe so many more
pub owes_more : (most more : ℕ → ℕ) (world : World) (own n : ℕ) (change : SlotNow → SlotNow)
    → ((s : ℕ) → most s ≤ more s) → most own + n ≤ more own
    → owed (change (slot_at world own)) ≤ owed (slot_at world own) + n
    → Owes most world → Owes more (on_slot world own change)
owes_more most more world own n change all here owes lanes slice =
    put_each (λ m slot. orders_of m (data_at world slice).orders + owed slot ≤ more m) fresh_slot world.slots own
    (change (slot_at world own))
    (λ m. let few = lanes slice m in let some = all m in omega (arith, few, some))
    (let few = lanes slice own in omega (arith, few, here, owes))

-- behind a line of one slot
abbrev pub changed : ℕ → (Tally → Tally) → Tallies → Tallies
changed own more tallies = λ s. cond (own == s) (more (tallies s)) (tallies s)

pub changed-own : (own : ℕ) (more : Tally → Tally) (tallies : Tallies)
    → changed own more tallies own ≡ more (tallies own)
changed-own own more tallies = ap (λ test. cond test (more (tallies own)) (tallies own)) (eqb_same own)

pub changed-other : (own s : ℕ) (more : Tally → Tally) (tallies : Tallies) → (own == s) ≡ false
    → changed own more tallies s ≡ tallies s
changed-other own s more tallies other = ap (λ test. cond test (more (tallies s)) (tallies s)) other

abbrev pub HoldsTally : SlotNow → Tally → Type 0
HoldsTally slot tally = SlotHolds (not tally.seen) (not tally.seen) tally slot

pub hold_changed : (tallies : Tallies) (world : World) (own : ℕ) (more : Tally → Tally) (change : SlotNow → SlotNow)
    → HoldsTally (change (slot_at world own)) (more (tallies own))
    → HoldAs (unseen tallies) (unseen tallies) tallies world
    → HoldAs (unseen (changed own more tallies)) (unseen (changed own more tallies)) (changed own more tallies)
    (on_slot world own change)
hold_changed tallies world own more change here all =
    put_others (λ s slot. HoldsTally slot (changed own more tallies s)) fresh_slot world.slots own
    (change (slot_at world own))
    (λ s other. subst (HoldsTally (slot_at world s)) (sym (changed-other own s more tallies other)) (all s))
    (subst (HoldsTally (change (slot_at world own))) (sym (changed-own own more tallies)) here)

cond-least : (test : Bool) (some other : ℕ) → other ≤ some → other ≤ cond test some other
cond-least true some other least = least
cond-least false some other least = omega arith

cond-allowed : (test : Bool) (some other : Tally) → may_have other ≤ may_have some
    → may_have other ≤ may_have (cond test some other)
cond-allowed true some other least = least
cond-allowed false some other least = omega arith

-- more is allowed behind a line
pub allowed_more : (tallies : Tallies) (own : ℕ) (more : Tally → Tally)
    → ((tally : Tally) → may_have tally ≤ may_have (more tally))
    → (s : ℕ) → allowed tallies s ≤ allowed (changed own more tallies) s
allowed_more tallies own more grows s = cond-allowed (own == s) (more (tallies s)) (tallies s) (grows (tallies s))

pub allowed_own : (tallies : Tallies) (own n : ℕ) (more : Tally → Tally)
    → may_have (tallies own) + n ≤ may_have (more (tallies own))
    → allowed tallies own + n ≤ allowed (changed own more tallies) own
allowed_own tallies own n more grows =
    let same = ap may_have (changed-own own more tallies) in omega (arith, same, grows)

-- a slot's first line makes its halves
abbrev pub seen_too : Tally → Tally
seen_too tally = record tally { seen = true }

pub seen_most : (seen : Bool) → cond seen 1 0 ≤ 1
seen_most true = omega arith
seen_most false = omega arith

pub seen_allows : (tally : Tally) → may_have tally ≤ may_have (seen_too tally)
seen_allows tally = let few = seen_most tally.seen in omega (arith, few)

absent_away : (standing : Standing) → is_absent standing ≡ true → is_placed standing ≡ false
absent_away absent is = refl
absent_away front is = absurd (true≢false (sym is))
absent_away (placed slice) is = absurd (true≢false (sym is))
absent_away (recalled slice until) is = absurd (true≢false (sym is))
absent_away leaving is = absurd (true≢false (sym is))

not_true : (seen : Bool) → not seen ≡ true → seen ≡ false
not_true true is = absurd (true≢false (sym is))
not_true false is = refl

-- which slots have no half yet, where the one of this slot is made
abbrev pub but_one : ℕ → Tallies → ℕ → Bool
but_one own tallies s = cond (own == s) false (unseen tallies s)

but_one-own : (own : ℕ) (tallies : Tallies) → but_one own tallies own ≡ false
but_one-own own tallies = ap (λ test. cond test false (unseen tallies own)) (eqb_same own)

but_one-other : (own s : ℕ) (tallies : Tallies) → (own == s) ≡ false → but_one own tallies s ≡ unseen tallies s
but_one-other own s tallies other = ap (λ test. cond test false (unseen tallies s)) other

with_control : (tallies : Tallies) (world : World) (own : ℕ)
    → HoldAs (unseen tallies) (unseen tallies) tallies world
    → HoldAs (but_one own tallies) (unseen tallies) tallies (control_made world own)
with_control tallies world own all =
    let old = all own in
    put_others (λ s slot. SlotHolds (but_one own tallies s) (unseen tallies s) (tallies s) slot) fresh_slot world.slots
    own (record (slot_at world own) { control = front })
    (λ s other. subst (λ test. SlotHolds test (unseen tallies s) (tallies s) (slot_at world s))
    (sym (but_one-other own s tallies other)) (all s))
    (record {
      commands = old.commands;
      packets = old.packets;
      moves = old.moves;
      control_is = sym (but_one-own own tallies);
      data_is = old.data_is;
      queued = old.queued;
      parked = old.parked;
      called = old.called;
    })

with_data : (tallies : Tallies) (world : World) (own : ℕ) → (tallies own).seen ≡ false
    → HoldAs (but_one own tallies) (unseen tallies) tallies world
    → HoldAs (but_one own tallies) (but_one own tallies) tallies (data_made world own)
with_data tallies world own new all =
    let now = all own in
    let unmade = absent_away (slot_at world own).data_half (now.data_is ∙ ap not new) in
    put_others (λ s slot. SlotHolds (but_one own tallies s) (but_one own tallies s) (tallies s) slot) fresh_slot
    world.slots own (record (slot_at world own) { data_half = front })
    (λ s other. subst (λ test. SlotHolds (but_one own tallies s) test (tallies s) (slot_at world s))
    (sym (but_one-other own s tallies other)) (all s))
    (record {
      commands = now.commands;
      packets = now.packets;
      moves = now.moves;
      control_is = now.control_is;
      data_is = sym (but_one-own own tallies);
      queued = now.queued;
      parked = λ is. now.parked (parks_still (slot_at world own) (record (slot_at world own) { data_half = front }) refl
          (omega arith) (λ away. unmade) is);
      called = λ is. absurd (true≢false (sym is));
    })

made_holds : (rooms : Rooms) (bounds : ℕ → ℕ) (tallies : Tallies) (world : World) (own : ℕ)
    → is_absent (slot_at world own).control ≡ true → Holds tallies world
    → Holds (changed own seen_too tallies) (made rooms bounds world own)
made_holds rooms bounds tallies world own none holds =
    let first = control_made world own in
    let second = control_offer bounds first own in
    let third = data_made second own in
    let last = made rooms bounds world own in
    let there = but_one own tallies in
    let new = not_true (tallies own).seen (sym (holds.slots own).control_is ∙ none) in
    let offered = hold_goes there (unseen tallies) tallies first second (control_offer_goes bounds first own)
    (with_control tallies world own holds.slots) in
    let all = hold_goes there there tallies third last (offer_goes rooms bounds third own)
    (with_data tallies second own new offered) in
    let seen_is = ap {B = ℕ} (λ test. cond test 1 0) new in
    record {
      slots = λ s.
          cond_gives (HoldsTally (slot_at last s)) (own == s) (seen_too (tallies s)) (tallies s)
          (λ is. let slot = all s in record {
            commands = slot.commands;
            packets = slot.packets;
            moves = slot.moves;
            control_is = slot.control_is ∙ ap (λ test. cond test false (unseen tallies s)) is;
            data_is = slot.data_is ∙ ap (λ test. cond test false (unseen tallies s)) is;
            queued = slot.queued;
            parked = slot.parked;
            called = slot.called;
          })
          (λ other. subst (λ test. SlotHolds test test (tallies s) (slot_at last s)) (but_one-other own s tallies other)
          (all s));
      lanes = owes_goes (allowed (changed own seen_too tallies)) third last (offer_goes rooms bounds third own)
          (owes_more (allowed tallies) (allowed (changed own seen_too tallies)) second own 1
          (λ slot. record slot { data_half = front }) (allowed_more tallies own seen_too seen_allows)
          (allowed_own tallies own 1 seen_too (omega (arith, seen_is)))
          (omega arith)
          (owes_goes (allowed tallies) first second (control_offer_goes bounds first own)
          (owes_more (allowed tallies) (allowed tallies) world own 0 (λ slot. record slot { control = front })
          (λ s. omega arith) (omega arith) (omega arith) holds.lanes)));
    }

there_holds : (tallies : Tallies) (world : World) (own : ℕ) → is_absent (slot_at world own).control ≡ false
    → Holds tallies world → Holds (changed own seen_too tallies) world
there_holds tallies world own there holds = record {
  slots = λ s.
      let old = holds.slots s in
      cond_gives (HoldsTally (slot_at world s)) (own == s) (seen_too (tallies s)) (tallies s)
      (λ is.
      let here : is_absent (slot_at world s).control ≡ false =
      subst (λ k. is_absent (slot_at world k).control ≡ false) (eqb-true own s is) there in
      record {
        commands = old.commands;
        packets = old.packets;
        moves = old.moves;
        control_is = here;
        data_is = old.data_is ∙ sym old.control_is ∙ here;
        queued = old.queued;
        parked = old.parked;
        called = old.called;
      })
      (λ other. old);
  lanes = λ slice s.
      let few = holds.lanes slice s in
      let more = allowed_more tallies own seen_too seen_allows s in
      omega (arith, few, more);
}

pub admitted_holds : (rooms : Rooms) (bounds : ℕ → ℕ) (tallies : Tallies) (world : World) (own : ℕ)
    → Holds tallies world
    → Holds (changed own seen_too tallies) (admitted rooms bounds world own)
admitted_holds rooms bounds tallies world own holds =
    cond_gives (Holds (changed own seen_too tallies)) (is_absent (slot_at world own).control)
    (made rooms bounds world own) world
    (λ none. made_holds rooms bounds tallies world own none holds)
    (λ there. there_holds tallies world own there holds)
