-- Still halves are passed: a turn of them changes nothing.
use Rattle.std.proofs.Common.{◌≡◌, ℕ, zero, suc, ◌+◌, ◌-◌, ◌<◌, ◌≤◌, Bool, true, false, nat_lt, List, [], length, get_or, cond, refl, sym, ap, subst, ◌∙◌, inl, inr, arith}
use Rattle.std.proofs.lemmas.Bool.{cases_lt, ltb-false}
use Rattle.epoch_schedule.specs.Numbers.{value_at, put_at}
use Rattle.epoch_schedule.specs.Slots.{SlotNow, fresh_slot}
use Rattle.epoch_schedule.specs.Halves.{Worked, control_work}
use Rattle.epoch_schedule.specs.World.{World, Rooms, slot_at, control_at, cursor_next}
use Rattle.epoch_schedule.specs.ControlTurns.{held_at, slot_held, half_turned, has_worked, next_place, cursor_at, work_round, work_all}
use Rattle.epoch_schedule.proofs.Keeping.{put_each}
use Rattle.epoch_schedule.proofs.Worlds.{slot_at-own}
use Rattle.epoch_schedule.specs.Busy.{is_still, AreBusyBut}
use Rattle.epoch_schedule.specs.Rosters.{RosterNow, roster_at}
use Rattle.epoch_schedule.specs.Rounds.{slots_held, IsOrderly, place_held, place_on, turn_at, turn_of}
use Rattle.epoch_schedule.specs.Waiting.{is_in}
use Rattle.epoch_schedule.proofs.Busied.{at, still_turned, idle_still, in_where, order_at}
use Rattle.epoch_schedule.proofs.Busying.{half_busy}
use Rattle.epoch_schedule.proofs.Rounds.{round_on, round_done}
use Rattle.epoch_schedule.proofs.Touched.{put_same, length_put}
use Rattle.epoch_schedule.proofs.TurnOrder.{once_more, once_place, below_at, held_own, on_within, on_next, on_back, distance_below, turn_on}

-- halves of these turns are still
pub record StillHalf (room : ℕ) (slots : List SlotNow) (s : ℕ) : Type 0 where
  pub within : s < length slots
  pub still : is_still room (value_at fresh_slot slots s) ≡ true

abbrev pub StillSpan : ℕ → List SlotNow → RosterNow → (from to : ℕ) → Type 0
StillSpan room slots roster from to =
    (q : ℕ) → q < length roster.held → from ≤ turn_at roster q → turn_at roster q < to
    → StillHalf room slots (held_at roster.held q).slot

half_same : (rooms : Rooms) (world : World) (s : ℕ) → StillHalf rooms.room world.slots s
    → half_turned rooms world s ≡ world
half_same rooms world s half =
    ap (λ (slot : SlotNow). record world { slots = put_at fresh_slot world.slots s slot })
    (ap (λ (w : Worked). w.slot) (still_turned rooms.room (slot_at world s) half.still))
    ∙ ap (λ (slots : List SlotNow). record world { slots = slots }) (put_same fresh_slot world.slots s half.within)

half_idle : (rooms : Rooms) (world : World) (s : ℕ) → StillHalf rooms.room world.slots s
    → has_worked rooms world s ≡ false
half_idle rooms world s half = ap (λ (w : Worked). w.worked) (still_turned rooms.room (slot_at world s) half.still)

-- so many still halves are passed
skip : (rooms : Rooms) (slice from n : ℕ) (world : World)
    → (roster_at world slice).cursor < length (roster_at world slice).held
    → from + n ≤ length (roster_at world slice).held
    → StillSpan rooms.room world.slots (roster_at world slice) from (from + n)
    → work_round rooms slice
    (place_on (roster_at world slice).cursor (from + n) (length (roster_at world slice).held))
    (length (roster_at world slice).held - (from + n)) world
    ≡ work_round rooms slice
    (place_on (roster_at world slice).cursor from (length (roster_at world slice).held))
    (length (roster_at world slice).held - from) world
skip rooms slice from zero world within few still =
    let count = length (roster_at world slice).held in
    let none : from + zero ≡ from = omega arith in
    ap (λ m. work_round rooms slice (place_on (roster_at world slice).cursor m count) (count - m) world) none
skip rooms slice from (suc n) world within few still =
    let roster = roster_at world slice in
    let count = length roster.held in
    let place = place_on roster.cursor from count in
    let turn = turn_on roster.cursor from count within (omega (arith, few)) in
    let at = turn.turn in
    let s = slot_held world slice place in
    let half : StillHalf rooms.room world.slots s = still place turn.within (omega (arith, at)) (omega (arith, at)) in
    let one : count - from ≡ suc (count - suc from) = omega (arith, few) in
    let more : from + suc n ≡ suc from + n = omega arith in
    ap (λ m. work_round rooms slice (place_on roster.cursor m count) (count - m) world) more
    ∙ skip rooms slice (suc from) n world within (omega (arith, few))
    (λ q q_within above below. still q q_within (omega (arith, above)) (omega (arith, below)))
    ∙ ap (λ p. work_round rooms slice p (count - suc from) world)
    (sym (on_next roster.cursor from count within (omega (arith, few))))
    ∙ ap (work_round rooms slice (next_place world slice place) (count - suc from))
    (sym (half_same rooms world s half))
    ∙ sym (ap (λ test. cond test (cursor_at (half_turned rooms world s) slice (next_place world slice place))
    (work_round rooms slice (next_place world slice place) (count - suc from) (half_turned rooms world s)))
    (half_idle rooms world s half))
    ∙ sym (ap (λ m. work_round rooms slice place m world) one)

pub skipped : (rooms : Rooms) (slice from to : ℕ) (world : World)
    → (roster_at world slice).cursor < length (roster_at world slice).held
    → from ≤ to → to ≤ length (roster_at world slice).held
    → StillSpan rooms.room world.slots (roster_at world slice) from to
    → work_round rooms slice
    (place_on (roster_at world slice).cursor to (length (roster_at world slice).held))
    (length (roster_at world slice).held - to) world
    ≡ work_round rooms slice
    (place_on (roster_at world slice).cursor from (length (roster_at world slice).held))
    (length (roster_at world slice).held - from) world
skipped rooms slice from to world within less few still =
    let count = length (roster_at world slice).held in
    let parts : from + (to - from) ≡ to = omega (arith, less) in
    ap (λ m. work_round rooms slice (place_on (roster_at world slice).cursor m count) (count - m) world) (sym parts)
    ∙ skip rooms slice from (to - from) world within (omega (arith, parts, few))
    (λ q q_within above below. still q q_within above (omega (arith, below, parts)))

-- turns until one works
pub record Working (busy : List (List ℕ)) (rooms : Rooms) (slice : ℕ) (all world : World) : Type 0 where
  pub busy_so : AreBusyBut rooms.room [] busy world
  pub orderly : IsOrderly (length world.slots) (roster_at world slice)
  pub ahead : work_all rooms slice world ≡ all

module _ (busy : List (List ℕ)) (rooms : Rooms) (slice : ℕ) (all world : World)
    (working : Working busy rooms slice all world) where
  abbrev roster : RosterNow
  roster = roster_at world slice

  abbrev count : ℕ
  count = length roster.held

  abbrev list : List ℕ
  list = get_or busy slice []

  -- from the cursor on
  from_cursor : (w : World) → (roster_at w slice).cursor < length (roster_at w slice).held
      → work_round rooms slice (place_on (roster_at w slice).cursor 0 (length (roster_at w slice).held))
      (length (roster_at w slice).held - 0) w ≡ work_all rooms slice w
  from_cursor w within =
      let own = roster_at w slice in
      let same : own.cursor + 0 ≡ own.cursor = omega arith in
      let whole : length own.held - 0 ≡ length own.held = omega arith in
      ap (λ p. work_round rooms slice p (length own.held - 0) w)
      (on_within own.cursor 0 (length own.held) (omega (arith, within)) ∙ same)
      ∙ ap (λ m. work_round rooms slice own.cursor m w) whole

  -- the turn of a half of the list isn't among those before its first one
  before_by : (to : ℕ) → ((j : ℕ) → j < length list → to ≤ turn_of roster (at list j))
      → StillSpan rooms.room world.slots roster 0 to
  before_by to first q within above below = record {
    within = below_at (length world.slots) roster.held q within working.orderly.once;
    still = by (is_in list (held_at roster.held q).slot) refl;
  }
    where
      by : (test : Bool) → is_in list (held_at roster.held q).slot ≡ test
          → is_still rooms.room (value_at fresh_slot world.slots (held_at roster.held q).slot) ≡ true
      by true is =
          let there = in_where list (held_at roster.held q).slot is in
          let least = first there.0 there.1 in
          let own = ap (λ t. turn_of roster t) there.2
          ∙ ap (turn_at roster) (once_place (length world.slots) roster.held q within working.orderly.once) in
          absurd (omega (arith, least, own, below))
      by false is = (working.busy_so slice).still q within is refl

  pub works_none : nat_lt 0 (length list) ≡ false → world ≡ all
  works_none empty =
      let few = ltb-false 0 (length list) empty in
      let none : 0 ≡ count - count = omega arith in
      ap (λ m. work_round rooms slice (place_on roster.cursor count count) m world) none
      ∙ skipped rooms slice 0 count world working.orderly.next (omega arith) (omega arith)
      (before_by count (λ j below. absurd (omega (arith, below, few))))
      ∙ from_cursor world working.orderly.next ∙ working.ahead

  module _ (n slot : ℕ) (worked : Bool) (there : n < length list) (own : slot ≡ at list n)
      (first : (j : ℕ) → j < length list → turn_of roster (at list n) ≤ turn_of roster (at list j))
      (test : worked ≡ has_worked rooms world slot) where
    abbrev place : ℕ
    place = place_held slot roster.held

    abbrev after : World
    after = half_turned rooms world slot

    held : place < count
    held =
        let among = (order_at 0 count roster.held list n (working.busy_so slice).ordered there).1 in
        let same = ap (λ t. place_held t roster.held) own in
        omega (arith, among, same)

    before : StillSpan rooms.room world.slots roster 0 (turn_of roster slot)
    before =
        before_by (turn_of roster slot)
        (λ j below.
        let least = first j below in
        let same = ap (turn_of roster) own in
        omega (arith, least, same))

    turned : turn_of roster slot < count
    turned = distance_below roster.cursor place count working.orderly.next held

    here : work_round rooms slice place (count - turn_of roster slot) world ≡ all
    here =
        let few = turned in
        ap (λ p. work_round rooms slice p (count - turn_of roster slot) world)
        (sym (on_back roster.cursor place count working.orderly.next held))
        ∙ skipped rooms slice 0 (turn_of roster slot) world working.orderly.next (omega arith) (omega (arith, few)) before
        ∙ from_cursor world working.orderly.next ∙ working.ahead

    some : 0 < count - turn_of roster slot
    some = let few = turned in omega (arith, few)

    is_own : slot ≡ slot_held world slice place
    is_own = sym (held_own slot roster.held held)

    pub works_done : worked ≡ true
        → cursor_at after slice (next_place after slice (place_held slot (control_at after slice).held)) ≡ all
    works_done is =
        round_done rooms slice (count - turn_of roster slot) place world after all slot
        (next_place after slice place) worked some is_own refl test refl here is

    pub rests_now : worked ≡ false → is_still rooms.room (slot_at after slot) ≡ true
    rests_now idle =
        ap (is_still rooms.room) (slot_at-own world slot (λ own_slot. (control_work rooms.room own_slot).slot))
        ∙ idle_still rooms.room (slot_at world slot) (sym test ∙ idle)

    pub orderly_after : IsOrderly (length after.slots) (roster_at after slice)
    orderly_after =
        let more = length_put fresh_slot world.slots slot (control_work rooms.room (slot_at world slot)).slot in
        record {
          next = working.orderly.next;
          once = once_more (length world.slots) (length after.slots) (slots_held roster.held) more.0
              working.orderly.once;
        }

    behind : worked ≡ false → StillSpan rooms.room after.slots roster 0 (suc (turn_of roster slot))
    behind idle q within above below = record {
      within = below_at (length after.slots) roster.held q within orderly_after.once;
      still = elim (cases_lt (turn_at roster q) (turn_of roster slot)) [
        | inl less ↦
            put_each (λ m (own_slot : SlotNow). is_still rooms.room (slot_at world m) ≡ true
            → is_still rooms.room own_slot ≡ true) fresh_slot world.slots slot
            (control_work rooms.room (slot_at world slot)).slot (λ m is. is)
            (λ is. ap (λ (w : Worked). is_still rooms.room w.slot) (still_turned rooms.room (slot_at world slot) is) ∙ is)
            (held_at roster.held q).slot (before q within above less).still
        | inr more ↦
            let same : turn_at roster q ≡ turn_of roster slot = omega (arith, more, below) in
            let here_q : q ≡ place =
            sym (on_back roster.cursor q count working.orderly.next within)
            ∙ ap (λ n_turns. place_on roster.cursor n_turns count) same
            ∙ on_back roster.cursor place count working.orderly.next held in
            let is_slot : slot ≡ (held_at roster.held q).slot =
            is_own ∙ sym (ap (λ p. (held_at roster.held p).slot) here_q) in
            subst (λ t. is_still rooms.room (value_at fresh_slot after.slots t) ≡ true) is_slot (rests_now idle)
      ];
    }

    pub works_on : worked ≡ false → work_all rooms slice after ≡ all
    works_on idle =
        let few = turned in
        let less : count - turn_of roster slot - 1 ≡ count - suc (turn_of roster slot) = omega arith in
        sym (from_cursor after working.orderly.next)
        ∙ sym (skipped rooms slice 0 (suc (turn_of roster slot)) after working.orderly.next (omega arith)
        (omega (arith, few)) (behind idle))
        ∙ ap (λ p. work_round rooms slice p (count - suc (turn_of roster slot)) after)
        (sym (on_next roster.cursor (turn_of roster slot) count working.orderly.next turned)
        ∙ ap (λ p. cursor_next p count) (on_back roster.cursor place count working.orderly.next held))
        ∙ sym (ap (λ m. work_round rooms slice (next_place world slice place) m after) less)
        ∙ round_on rooms slice (count - turn_of roster slot) place world after all slot
        (next_place after slice place) worked some is_own refl test refl here idle

    pub busy_after : AreBusyBut rooms.room [] busy after
    busy_after = half_busy rooms [] busy world slot working.busy_so
