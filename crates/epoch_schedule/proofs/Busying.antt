-- Lists of busy halves behind what is done to slots and workers.
use Rattle.std.proofs.Common.{◌≡◌, ℕ, zero, suc, ◌+◌, ◌<◌, ◌≤◌, ◌==◌, ◌||◌, Bool, true, false, None, List, [], ◌∷◌, ◌++◌, length, get_or, set, map, drop, refl, sym, ap, subst, ◌∙◌, inl, inr, arith, true≢false, length-append}
use Rattle.std.specs.Prelude.{◌⊎◌}
use Rattle.std.proofs.lemmas.Bool.{cases_eq, cases_lt, eq-eqb, eqb-true, ne_eqb}
use Rattle.std.specs.List.{remove}
use Rattle.std.proofs.lemmas.List.{length-map}
use Rattle.std.proofs.lemmas.List.Edits.{length-remove}
use Rattle.epoch_schedule.specs.Numbers.{value_at}
use Rattle.epoch_schedule.specs.Slots.{SlotNow, fresh_slot}
use Rattle.epoch_schedule.specs.Halves.{Worked, control_work}
use Rattle.epoch_schedule.specs.World.{World, Rooms, HeldControl, ControlNow, come, go, fresh_control, slot_at, on_slot, control_at, on_control}
use Rattle.epoch_schedule.specs.ControlTurns.{marked, without, held_at, slot_held, half_turned, has_worked, next_place, cursor_at, work_round, sent_home, behind_order}
use Rattle.epoch_schedule.proofs.Keeping.{put_each, cond_keeps, get_or-front, get_or-last_at}
use Rattle.epoch_schedule.specs.Busy.{is_still, InOrder, IsLively, AreBusyBut, IsLeft, IsWithoutSlot, IsWoken}
use Rattle.epoch_schedule.specs.Rosters.{RosterNow, roster_at}
use Rattle.epoch_schedule.specs.Rounds.{place_held, turn_of}
use Rattle.epoch_schedule.specs.Waiting.{is_in}
use Rattle.epoch_schedule.proofs.Busied.{at, still_turned, order_at, order_same, order_remove, in_remove, removed_none, none_in, place_here, place_more, place_marked, marked_slot}
use Rattle.epoch_schedule.proofs.Grown.{value-within}
use Rattle.epoch_schedule.proofs.SlotSets.{or_none, get_set, get_set_other, past_none}
use Rattle.epoch_schedule.proofs.Touched.{put_other}
use Rattle.epoch_schedule.proofs.TurnOrder.{past, found, held_own}

-- slots that change
pub half_busy : (rooms : Rooms) (but : List ℕ) (busy : List (List ℕ)) (world : World) (s : ℕ)
    → AreBusyBut rooms.room but busy world → AreBusyBut rooms.room but busy (half_turned rooms world s)
half_busy rooms but busy world s are = λ slice. record {
  ordered = (are slice).ordered;
  still = λ q within asleep off.
      put_each (λ m (slot : SlotNow). is_still rooms.room (slot_at world m) ≡ true → is_still rooms.room slot ≡ true)
      fresh_slot world.slots s (control_work rooms.room (slot_at world s)).slot (λ m is. is)
      (λ is. ap (λ (w : Worked). is_still rooms.room w.slot) (still_turned rooms.room (slot_at world s) is) ∙ is) _
      ((are slice).still q within asleep off);
}

pub same_busy : (room : ℕ) (busy : List (List ℕ)) (world : World) (s : ℕ) (change : SlotNow → SlotNow)
    → (is_still room (slot_at world s) ≡ true → is_still room (change (slot_at world s)) ≡ true)
    → AreBusyBut room [] busy world → AreBusyBut room [] busy (on_slot world s change)
same_busy room busy world s change still are = λ slice. record {
  ordered = (are slice).ordered;
  still = λ q within asleep off.
      put_each (λ m (slot : SlotNow). is_still room (slot_at world m) ≡ true → is_still room slot ≡ true) fresh_slot
      world.slots s (change (slot_at world s)) (λ m is. is) still _ ((are slice).still q within asleep off);
}

pub slot_busy : (room : ℕ) (busy : List (List ℕ)) (world : World) (s : ℕ) (change : SlotNow → SlotNow)
    → AreBusyBut room [] busy world → AreBusyBut room (s ∷ []) busy (on_slot world s change)
slot_busy room busy world s change are = λ slice. record {
  ordered = (are slice).ordered;
  still = λ q within asleep off.
      subst (λ (slot : SlotNow). is_still room slot ≡ true)
      (sym (put_other fresh_slot world.slots s (held_at (control_at world slice).held q).slot (change (slot_at world s))
      (or_none (s == (held_at (control_at world slice).held q).slot) false off).0))
      ((are slice).still q within asleep refl);
}

-- workers that change: what holds of each list, by what it holds of the one that changed
pub busy_put : (room : ℕ) (more : List ℕ) (busy : List (List ℕ)) (world : World) (slice : ℕ)
    (change : ControlNow → ControlNow)
    → ((other : ℕ) → IsLively room more (control_at world other).held (get_or busy other []) world.slots)
    → IsLively room more (change (control_at world slice)).held (get_or busy slice []) world.slots
    → AreBusyBut room more busy (on_control world slice change)
busy_put room more busy world slice change others here =
    put_each (λ m (worker : ControlNow). IsLively room more worker.held (get_or busy m []) world.slots) fresh_control
    world.controls slice (change (control_at world slice)) others here

pub cursor_busy : (room : ℕ) (but : List ℕ) (busy : List (List ℕ)) (world : World) (slice place : ℕ)
    → AreBusyBut room but busy world
    → AreBusyBut room but busy (on_control world slice (λ worker. record worker { cursor = place }))
cursor_busy room but busy world slice place are =
    busy_put room but busy world slice (λ worker. record worker { cursor = place }) are (are slice)

pub order_busy : (room : ℕ) (but : List ℕ) (busy : List (List ℕ)) (world : World) (slice : ℕ)
    → AreBusyBut room but busy world
    → AreBusyBut room but busy (on_control world slice (λ worker. record worker { orders = drop 1 worker.orders }))
order_busy room but busy world slice are =
    busy_put room but busy world slice (λ worker. record worker { orders = drop 1 worker.orders }) are (are slice)

lively_more : (room s : ℕ) (held : List HeldControl) (list : List ℕ) (slots : List SlotNow)
    → IsLively room [] held list slots → IsLively room (s ∷ []) held list slots
lively_more room s held list slots is = record {
  ordered = is.ordered;
  still = λ q within asleep off. is.still q within asleep refl;
}

pub come_busy : (room : ℕ) (busy : List (List ℕ)) (world : World) (slice s : ℕ) → AreBusyBut room [] busy world
    → AreBusyBut room (s ∷ []) busy (on_control world slice (λ worker. behind_order worker (come s)))
come_busy room busy world slice s are =
    let held = (control_at world slice).held in
    let half : HeldControl = record { slot = s; until = None } in
    let longer = length-append held (half ∷ []) in
    busy_put room (s ∷ []) busy world slice (λ worker. behind_order worker (come s))
    (λ other. lively_more room s (control_at world other).held (get_or busy other []) world.slots (are other))
    (record {
      ordered = order_same 0 (length held) (length (held ++ half ∷ [])) held (held ++ half ∷ []) (get_or busy slice [])
          (omega (arith, longer)) (λ t within. place_more held half t within) (are slice).ordered;
      still = λ q within asleep off. elim (cases_lt q (length held)) [
        | inl below ↦
            let same : (held_at (held ++ half ∷ []) q).slot ≡ (held_at held q).slot =
            ap (λ (own : HeldControl). own.slot) (get_or-front held half q (record { slot = 0; until = None }) below) in
            subst (λ t. is_still room (value_at fresh_slot world.slots t) ≡ true) (sym same)
            ((are slice).still q below (sym (ap (is_in (get_or busy slice [])) same) ∙ asleep) refl)
        | inr past_all ↦
            let last : q ≡ length held = omega (arith, past_all, within, longer) in
            let own : (held_at (held ++ half ∷ []) q).slot ≡ s =
            ap (λ (one : HeldControl). one.slot) (get_or-last_at held half q (record { slot = 0; until = None }) last) in
            absurd (true≢false (sym (eq-eqb s (held_at (held ++ half ∷ []) q).slot (sym own))
            ∙ (or_none (s == (held_at (held ++ half ∷ []) q).slot) false off).0))
      ];
    })

marked_at : (slot until : ℕ) (held : List HeldControl) (q : ℕ)
    → (held_at (map (marked slot until) held) q).slot ≡ (held_at held q).slot
marked_at slot until [] q = refl
marked_at slot until (own ∷ others) zero = marked_slot slot until own
marked_at slot until (own ∷ others) (suc q) = marked_at slot until others q

pub go_busy : (room : ℕ) (busy : List (List ℕ)) (world : World) (slice s until : ℕ) → AreBusyBut room [] busy world
    → AreBusyBut room [] busy (on_control world slice (λ worker. behind_order worker (go s until)))
go_busy room busy world slice s until are =
    let held = (control_at world slice).held in
    let new = map (marked s until) held in
    let count = length-map held (marked s until) in
    busy_put room [] busy world slice (λ worker. behind_order worker (go s until)) are (record {
      ordered = order_same 0 (length held) (length new) held new (get_or busy slice []) (omega (arith, count))
          (λ t within. place_marked s until held t) (are slice).ordered;
      still = λ q within asleep off.
          let same = marked_at s until held q in
          subst (λ t. is_still room (value_at fresh_slot world.slots t) ≡ true) (sym same)
          ((are slice).still q (omega (arith, within, count)) (sym (ap (is_in (get_or busy slice [])) same) ∙ asleep)
          refl);
    })

-- a half leaves
length-without : (held : List HeldControl) (p : ℕ) → p < length held → length (without p held) + 1 ≡ length held
length-without [] p within = absurd (omega (arith, within))
length-without (own ∷ others) zero within = omega arith
length-without (own ∷ others) (suc p) within =
    let less = length-without others p (omega (arith, within)) in
    omega (arith, less)

without_before : (held : List HeldControl) (p q : ℕ) → q < p → held_at (without p held) q ≡ held_at held q
without_before [] p q less = refl
without_before (own ∷ others) zero q less = absurd (omega (arith, less))
without_before (own ∷ others) (suc p) zero less = refl
without_before (own ∷ others) (suc p) (suc q) less = without_before others p q (omega (arith, less))

without_behind : (held : List HeldControl) (p q : ℕ) → p ≤ q → held_at (without p held) q ≡ held_at held (suc q)
without_behind [] p q more = refl
without_behind (own ∷ others) zero q more = refl
without_behind (own ∷ others) (suc p) zero more = absurd (omega (arith, more))
without_behind (own ∷ others) (suc p) (suc q) more = without_behind others p q (omega (arith, more))

place_before : (held : List HeldControl) (p t : ℕ) → p < length held → place_held t held < p
    → place_held t (without p held) ≡ place_held t held
place_before [] p t within less = absurd (omega (arith, within))
place_before (own ∷ others) zero t within less = absurd (omega (arith, less))
place_before (own ∷ others) (suc p) t within less = elim (cases_eq own.slot t) [
  | inl same ↦
      let is = eq-eqb own.slot t same in
      found t own (without p others) is ∙ sym (found t own others is)
  | inr differ ↦
      let is = ne_eqb own.slot t differ in
      let one = past t own others is in
      past t own (without p others) is
      ∙ ap suc (place_before others p t (omega (arith, within)) (omega (arith, less, one))) ∙ sym one
]

place_behind : (held : List HeldControl) (p t : ℕ) → p < place_held t held
    → place_held t (without p held) + 1 ≡ place_held t held
place_behind [] p t more = absurd (omega (arith, more))
place_behind (own ∷ others) zero t more = elim (cases_eq own.slot t) [
  | inl same ↦
      let none = found t own others (eq-eqb own.slot t same) in
      absurd (omega (arith, none, more))
  | inr differ ↦
      let one = past t own others (ne_eqb own.slot t differ) in
      omega (arith, one)
]
place_behind (own ∷ others) (suc p) t more = elim (cases_eq own.slot t) [
  | inl same ↦
      let none = found t own others (eq-eqb own.slot t same) in
      absurd (omega (arith, none, more))
  | inr differ ↦
      let is = ne_eqb own.slot t differ in
      let one = past t own others is in
      let two = past t own (without p others) is in
      let rest = place_behind others p t (omega (arith, more, one)) in
      omega (arith, one, two, rest)
]

order_left : (held : List HeldControl) (p : ℕ) (list : List ℕ) (first fresh : ℕ) → p < length held → fresh ≤ first
    → (p < first → fresh + 1 ≤ first) → is_in list (held_at held p).slot ≡ false
    → InOrder first (length held) held list → InOrder fresh (length (without p held)) (without p held) list
order_left held p [] first fresh within less past_first off ordered = tt
order_left held p (s ∷ others) first fresh within less past_first off ordered =
    let parts = or_none (s == (held_at held p).slot) (is_in others (held_at held p).slot) off in
    let above = ordered.0 in
    let below = ordered.1 in
    let count = length-without held p within in
    elim (cases_lt (place_held s held) p) [
      | inl before ↦
          let same = place_before held p s within before in (
            omega (arith, less, above, same),
            omega (arith, before, within, count, same),
            order_left held p others (suc (place_held s held)) (suc (place_held s (without p held))) within
                (omega (arith, same)) (λ under. absurd (omega (arith, under, before))) parts.1 ordered.2,
          )
      | inr most ↦ elim (cases_eq (place_held s held) p) [
        | inl here ↦
            let own : s ≡ (held_at held p).slot = sym (held_own s held below) ∙ ap (λ q. (held_at held q).slot) here in
            absurd (true≢false (sym (eq-eqb s (held_at held p).slot own) ∙ parts.0))
        | inr differ ↦
            let beyond : p < place_held s held = omega (arith, most, differ) in
            let one = place_behind held p s beyond in (
              by_first one beyond (cases_lt p first),
              omega (arith, below, count, one),
              order_left held p others (suc (place_held s held)) (suc (place_held s (without p held))) within
                  (omega (arith, one)) (λ under. omega (arith, one)) parts.1 ordered.2,
            )
      ]
    ]
  where
    by_first : place_held s (without p held) + 1 ≡ place_held s held → p < place_held s held
        → (p < first) ⊎ (first ≤ p) → fresh ≤ place_held s (without p held)
    by_first one beyond (inl under) =
        let step = past_first under in
        let above = ordered.0 in
        omega (arith, one, step, above)
    by_first one beyond (inr over) = omega (arith, one, over, less, beyond)

pub left_busy : (room : ℕ) (old new : List (List ℕ)) (world : World) (slice place s : ℕ)
    → place < length (control_at world slice).held → s ≡ (held_at (control_at world slice).held place).slot
    → AreBusyBut room [] old world → IsWithoutSlot slice s old new world
    → AreBusyBut room (s ∷ []) new (on_control world slice (λ worker. sent_home worker place))
left_busy room old new world slice place s within own are left =
    let held = (control_at world slice).held in
    busy_put room (s ∷ []) new world slice (λ worker. sent_home worker place)
    (λ other. elim (cases_eq slice other) [
      | inl same ↦ subst (λ m. IsLively room (s ∷ []) (control_at world m).held (get_or new m []) world.slots) same here
      | inr differ ↦
          subst (λ (list : List ℕ). IsLively room (s ∷ []) (control_at world other).held list world.slots)
          (sym (left.others other (ne_eqb slice other differ)))
          (lively_more room s (control_at world other).held (get_or old other []) world.slots (are other))
    ])
    (record {
      ordered = order_left held place (get_or new slice []) 0 0 within (omega arith)
          (λ under. absurd (omega (arith, under)))
          (ap (is_in (get_or new slice [])) (sym own) ∙ left.here.none) left.here.ordered;
      still = λ q under asleep off.
          let count = length-without held place within in
          elim (cases_lt q place) [
            | inl before ↦
                moved q q (omega (arith, before, within))
                (ap (λ (half : HeldControl). half.slot) (without_before held place q before)) asleep off
            | inr behind ↦
                moved q (suc q) (omega (arith, under, count))
                (ap (λ (half : HeldControl). half.slot) (without_behind held place q behind)) asleep off
          ];
    })
  where
    stays : (t : ℕ) → is_in (get_or new slice []) t ≡ false → is_in (s ∷ []) t ≡ false
        → is_in (get_or old slice []) t ≡ false
    stays t asleep off = sym (left.here.more t (or_none (s == t) false off).0) ∙ asleep

    here : IsLively room (s ∷ []) (control_at world slice).held (get_or new slice []) world.slots
    here = record {
      ordered = left.here.ordered;
      still = λ q under asleep off. (are slice).still q under (stays _ asleep off) refl;
    }

    moved : (q p : ℕ) → p < length (control_at world slice).held
        → (held_at (without place (control_at world slice).held) q).slot
        ≡ (held_at (control_at world slice).held p).slot
        → is_in (get_or new slice []) (held_at (without place (control_at world slice).held) q).slot ≡ false
        → is_in (s ∷ []) (held_at (without place (control_at world slice).held) q).slot ≡ false
        → is_still room (value_at fresh_slot world.slots (held_at (without place (control_at world slice).held) q).slot)
        ≡ true
    moved q p under same asleep off =
        subst (λ t. is_still room (value_at fresh_slot world.slots t) ≡ true) (sym same)
        ((are slice).still p under (sym (ap (is_in (get_or old slice [])) same) ∙ stays _ asleep off) refl)

-- a slot is taken up
pub woken_busy : (room : ℕ) (but : List ℕ) (s : ℕ) (old new : List (List ℕ)) (world : World)
    → ((slice : ℕ) → InOrder 0 (length (control_at world slice).held) (control_at world slice).held (get_or new slice []))
    → ((slice t : ℕ) → is_in (get_or old slice []) t ≡ true → is_in (get_or new slice []) t ≡ true)
    → ((slice : ℕ) → place_held s (control_at world slice).held < length (control_at world slice).held
    → is_in (get_or new slice []) s ≡ true)
    → AreBusyBut room (s ∷ but) old world → AreBusyBut room but new world
woken_busy room but s old new world ordered more own are = λ slice. record {
  ordered = ordered slice;
  still = λ q within asleep off. by slice q within asleep off (s == (held_at (control_at world slice).held q).slot) refl;
}
  where
    by : (slice q : ℕ) → q < length (control_at world slice).held
        → is_in (get_or new slice []) (held_at (control_at world slice).held q).slot ≡ false
        → is_in but (held_at (control_at world slice).held q).slot ≡ false
        → (test : Bool) → (s == (held_at (control_at world slice).held q).slot) ≡ test
        → is_still room (slot_at world (held_at (control_at world slice).held q).slot) ≡ true
    by slice q within asleep off true same =
        let held = (control_at world slice).held in
        let t = (held_at held q).slot in
        let is : s ≡ t = eqb-true s t same in
        let here : place_held s held < length held =
        subst (λ m. place_held m held < length held) (sym is) (place_here held q within) in
        absurd (true≢false (sym (own slice here) ∙ ap (is_in (get_or new slice [])) is ∙ asleep))
    by slice q within asleep off false other =
        let t = (held_at (control_at world slice).held q).slot in
        (are slice).still q within (fewer (is_in (get_or old slice []) t) refl)
        (ap (λ test. test || is_in but t) other ∙ off)
      where
        fewer : (test : Bool) → is_in (get_or old slice []) (held_at (control_at world slice).held q).slot ≡ test
            → is_in (get_or old slice []) (held_at (control_at world slice).held q).slot ≡ false
        fewer true is =
            absurd (true≢false (sym (more slice (held_at (control_at world slice).held q).slot is) ∙ asleep))
        fewer false is = is

pub still_busy : (room : ℕ) (but : List ℕ) (s : ℕ) (busy : List (List ℕ)) (world : World)
    → is_still room (slot_at world s) ≡ true → AreBusyBut room (s ∷ but) busy world → AreBusyBut room but busy world
still_busy room but s busy world is are = λ slice. record {
  ordered = (are slice).ordered;
  still = λ q within asleep off. by slice q within asleep off (s == (held_at (control_at world slice).held q).slot) refl;
}
  where
    by : (slice q : ℕ) → q < length (control_at world slice).held
        → is_in (get_or busy slice []) (held_at (control_at world slice).held q).slot ≡ false
        → is_in but (held_at (control_at world slice).held q).slot ≡ false
        → (test : Bool) → (s == (held_at (control_at world slice).held q).slot) ≡ test
        → is_still room (slot_at world (held_at (control_at world slice).held q).slot) ≡ true
    by slice q within asleep off true same =
        subst (λ t. is_still room (slot_at world t) ≡ true)
        (eqb-true s (held_at (control_at world slice).held q).slot same) is
    by slice q within asleep off false other =
        (are slice).still q within asleep
        (ap (λ test. test || is_in but (held_at (control_at world slice).held q).slot) other ∙ off)

-- the roster of a worker is that of its slice
abbrev roster_by : ControlNow → RosterNow
roster_by worker = record { held = worker.held; cursor = worker.cursor }

pub roster_of : (world : World) (slice : ℕ) (worker : ControlNow) (roster : RosterNow)
    → worker ≡ get_or world.controls slice worker → slice < length world.controls → roster ≡ roster_by worker
    → roster ≡ roster_at world slice
roster_of world slice worker roster is within roster_is =
    roster_is ∙ ap roster_by (is ∙ value-within fresh_control worker world.controls slice within)

-- slice by slice
pub record Waking (world : World) (s : ℕ) (first now : List (List ℕ)) (i : ℕ) : Type 0 where
  pub ordered : (own : ℕ) → InOrder 0 (length (control_at world own).held) (control_at world own).held
      (get_or now own [])
  pub more : (own t : ℕ) → is_in (get_or first own []) t ≡ true → is_in (get_or now own []) t ≡ true
  pub here : (own : ℕ) → own < i → place_held s (control_at world own).held < length (control_at world own).held
      → is_in (get_or now own []) s ≡ true

pub waking_begins : (room : ℕ) (but : List ℕ) (world : World) (s : ℕ) (busy : List (List ℕ))
    → AreBusyBut room but busy world → Waking world s busy busy 0
waking_begins room but world s busy are = record {
  ordered = λ own. (are own).ordered;
  more = λ own t is. is;
  here = λ own below. absurd (omega (arith, below));
}

module _ (world : World) (s : ℕ) (first now lists : List (List ℕ)) (i : ℕ) (roster : RosterNow) (list : List ℕ)
    (roster_is : roster ≡ roster_at world i) (same : (own : ℕ) → get_or lists own [] ≡ get_or now own [])
    (list_is : list ≡ get_or lists i []) (waking : Waking world s first now i) where
  held_is : roster.held ≡ (control_at world i).held
  held_is = ap (λ (r : RosterNow). r.held) roster_is

  pub waking_ordered : InOrder 0 (length roster.held) roster.held list
  waking_ordered =
      subst (λ (xs : List ℕ). InOrder 0 (length roster.held) roster.held xs) (sym (list_is ∙ same i))
      (subst (λ (held : List HeldControl). InOrder 0 (length held) held (get_or now i [])) (sym held_is)
      (waking.ordered i))

  pub waking_more : (new : List ℕ) → i < length lists → IsWoken s roster.held list new
      → Waking world s first (set lists i new) (i + 1)
  waking_more new within woken = record {
    ordered = λ own. elim (cases_eq i own) [
      | inl at_own ↦
          subst (λ m. InOrder 0 (length (control_at world m).held) (control_at world m).held
          (get_or (set lists i new) m [])) at_own
          (subst (λ (xs : List ℕ). InOrder 0 (length (control_at world i).held) (control_at world i).held xs)
          (sym (get_set lists i new within))
          (subst (λ (held : List HeldControl). InOrder 0 (length held) held new) held_is woken.ordered))
      | inr other ↦
          subst (λ (xs : List ℕ). InOrder 0 (length (control_at world own).held) (control_at world own).held xs)
          (sym (get_set_other lists i own new (ne_eqb i own other) ∙ same own)) (waking.ordered own)
    ];
    more = λ own t stands. elim (cases_eq i own) [
      | inl at_own ↦
          ap (λ m. is_in (get_or (set lists i new) m []) t) (sym at_own)
          ∙ ap (λ (xs : List ℕ). is_in xs t) (get_set lists i new within)
          ∙ woken.more t (ap (λ (xs : List ℕ). is_in xs t) (list_is ∙ same i)
          ∙ ap (λ m. is_in (get_or now m []) t) at_own ∙ waking.more own t stands)
      | inr other ↦
          ap (λ (xs : List ℕ). is_in xs t) (get_set_other lists i own new (ne_eqb i own other) ∙ same own)
          ∙ waking.more own t stands
    ];
    here = λ own below there. elim (cases_eq i own) [
      | inl at_own ↦
          ap (λ m. is_in (get_or (set lists i new) m []) s) (sym at_own)
          ∙ ap (λ (xs : List ℕ). is_in xs s) (get_set lists i new within)
          ∙ woken.own (subst (λ (held : List HeldControl). place_held s held < length held) (sym held_is)
          (subst (λ m. place_held s (control_at world m).held < length (control_at world m).held) (sym at_own) there))
      | inr other ↦
          ap (λ (xs : List ℕ). is_in xs s) (get_set_other lists i own new (ne_eqb i own other) ∙ same own)
          ∙ waking.here own (omega (arith, below, other)) there
    ];
  }

past_fresh : (controls : List ControlNow) (n : ℕ) → length controls ≤ n
    → value_at fresh_control controls n ≡ fresh_control
past_fresh [] n past_end = refl
past_fresh (worker ∷ controls) zero past_end = absurd (omega (arith, past_end))
past_fresh (worker ∷ controls) (suc n) past_end = past_fresh controls n (omega (arith, past_end))

pub turn_past : (world : World) (slice s t : ℕ) → length world.controls ≤ slice
    → turn_of (roster_at world slice) s ≤ turn_of (roster_at world slice) t
turn_past world slice s t past_end =
    subst (λ (worker : ControlNow). turn_of (roster_by worker) s ≤ turn_of (roster_by worker) t)
    (sym (past_fresh world.controls slice past_end)) (omega arith)

pub waking_ends : (room : ℕ) (but : List ℕ) (world : World) (s : ℕ) (first now : List (List ℕ)) (i : ℕ)
    → length world.controls ≤ i → Waking world s first now i → AreBusyBut room (s ∷ but) first world
    → AreBusyBut room but now world
waking_ends room but world s first now i all waking are =
    woken_busy room but s first now world waking.ordered waking.more
    (λ own there. elim (cases_lt own i) [
      | inl below ↦ waking.here own below there
      | inr beyond ↦
          let none = ap (λ (worker : ControlNow). length worker.held)
          (past_fresh world.controls own (omega (arith, all, beyond))) in
          absurd (omega (arith, there, none))
    ]) are

-- halves that are turned one by one
pub round_busy : (rooms : Rooms) (busy : List (List ℕ)) (slice place left : ℕ) (world : World)
    → AreBusyBut rooms.room [] busy world → AreBusyBut rooms.room [] busy (work_round rooms slice place left world)
round_busy rooms busy slice place zero world are = are
round_busy rooms busy slice place (suc left) world are =
    let s = slot_held world slice place in
    let turned = half_turned rooms world s in
    let next = next_place world slice place in
    let are_turned = half_busy rooms [] busy world s are in
    cond_keeps (AreBusyBut rooms.room [] busy) (has_worked rooms world s) (cursor_at turned slice next)
    (work_round rooms slice next left turned) (cursor_busy rooms.room [] busy turned slice next are_turned)
    (round_busy rooms busy slice next left turned are_turned)

-- what stands at a place of the list of a slice is left out
module _ (room : ℕ) (world : World) (busy : List (List ℕ)) (slice n : ℕ) (list new : List ℕ)
    (within : slice < length busy) (here : list ≡ get_or busy slice []) (there : n < length list)
    (new_is : new ≡ remove list n) where
  abbrev left_all : List (List ℕ)
  left_all = set busy slice new

  -- what holds of the list without it
  left_so : (P : List ℕ → Type 0) → P (remove list n) → P (get_or left_all slice [])
  left_so P is = subst P (sym (get_set busy slice new within ∙ new_is)) is

  pub rests_busy : AreBusyBut room [] busy world → is_still room (slot_at world (at list n)) ≡ true
      → AreBusyBut room [] left_all world
  rests_busy are still = λ own. elim (cases_eq slice own) [
    | inl same ↦
        subst (λ m. IsLively room [] (control_at world m).held (get_or left_all m []) world.slots) same
        (left_so (λ xs. IsLively room [] (control_at world slice).held xs world.slots) own_lively)
    | inr differ ↦
        subst (λ (xs : List ℕ). IsLively room [] (control_at world own).held xs world.slots)
        (sym (get_set_other busy slice own new (ne_eqb slice own differ))) (are own)
  ]
    where
      by : (q : ℕ) → q < length (control_at world slice).held
          → is_in (remove list n) (held_at (control_at world slice).held q).slot ≡ false
          → (test : Bool) → (at list n == (held_at (control_at world slice).held q).slot) ≡ test
          → is_still room (slot_at world (held_at (control_at world slice).held q).slot) ≡ true
      by q below asleep true same =
          subst (λ t. is_still room (slot_at world t) ≡ true)
          (eqb-true (at list n) (held_at (control_at world slice).held q).slot same) still
      by q below asleep false other =
          (are slice).still q below
          (sym (ap (λ (xs : List ℕ). is_in xs (held_at (control_at world slice).held q).slot) here)
          ∙ sym (in_remove list n (held_at (control_at world slice).held q).slot other there) ∙ asleep) refl

      own_lively : IsLively room [] (control_at world slice).held (remove list n) world.slots
      own_lively = record {
        ordered = order_remove 0 (length (control_at world slice).held) (control_at world slice).held list n there
            (subst (λ (xs : List ℕ). InOrder 0 (length (control_at world slice).held) (control_at world slice).held xs)
            (sym here) (are slice).ordered);
        still = λ q below asleep off.
            by q below asleep (at list n == (held_at (control_at world slice).held q).slot) refl;
      }

  pub rests_fewer : length (get_or left_all slice []) < length (get_or busy slice [])
  rests_fewer =
      let less = length-remove list n there in
      let now = ap length (get_set busy slice new within ∙ new_is) in
      let old = ap length here in
      omega (arith, less, now, old)

-- a slot is left out of a list
pub left_there : (held : List HeldControl) (list new : List ℕ) (n slot : ℕ) → n < length list → at list n ≡ slot
    → new ≡ remove list n → InOrder 0 (length held) held list → IsLeft slot held list new
left_there held list new n slot there own new_is ordered =
    subst (IsLeft slot held list) (sym new_is) (record {
      ordered = order_remove 0 (length held) held list n there ordered;
      none = ap (is_in (remove list n)) (sym own) ∙ removed_none 0 (length held) held list n ordered there;
      more = λ s other. in_remove list n s (ap (λ m. m == s) own ∙ other) there;
    })

pub lacks_slot : (held : List HeldControl) (list : List ℕ) (slot : ℕ) → InOrder 0 (length held) held list
    → is_in list slot ≡ false → IsLeft slot held list list
lacks_slot held list slot ordered off = record { ordered = ordered; none = off; more = λ s other. refl }

-- none stands there whose half isn't held
pub none_held : (held : List HeldControl) (list : List ℕ) (slot : ℕ) → InOrder 0 (length held) held list
    → length held ≤ place_held slot held → is_in list slot ≡ false
none_held held list slot ordered past_all =
    none_in list slot (λ j within same.
    let below = (order_at 0 (length held) held list j ordered within).1 in
    let own = ap (λ t. place_held t held) same in
    omega (arith, below, own, past_all))

-- and so of the lists of all slices
pub lacks_list : (room : ℕ) (world : World) (busy : List (List ℕ)) (slice slot : ℕ)
    → is_in (get_or busy slice []) slot ≡ false → AreBusyBut room [] busy world
    → IsWithoutSlot slice slot busy busy world
lacks_list room world busy slice slot off are = record {
  here = lacks_slot (control_at world slice).held (get_or busy slice []) slot (are slice).ordered off;
  others = λ other differ. refl;
}

pub past_lists : (room : ℕ) (world : World) (busy : List (List ℕ)) (slice slot : ℕ) → length busy ≤ slice
    → AreBusyBut room [] busy world → IsWithoutSlot slice slot busy busy world
past_lists room world busy slice slot past_end =
    lacks_list room world busy slice slot (ap (λ (xs : List ℕ). is_in xs slot) (past_none busy slice past_end))

pub past_controls : (room : ℕ) (world : World) (busy : List (List ℕ)) (slice slot : ℕ)
    → length world.controls ≤ slice → AreBusyBut room [] busy world → IsWithoutSlot slice slot busy busy world
past_controls room world busy slice slot past_end are =
    let empty : length (control_at world slice).held ≤ place_held slot (control_at world slice).held =
    subst (λ (worker : ControlNow). length worker.held ≤ place_held slot worker.held)
    (sym (past_fresh world.controls slice past_end)) (omega arith) in
    lacks_list room world busy slice slot
    (none_held (control_at world slice).held (get_or busy slice []) slot (are slice).ordered empty) are

module _ (world : World) (busy : List (List ℕ)) (slice slot : ℕ) (roster : RosterNow) (list : List ℕ)
    (roster_is : roster ≡ roster_at world slice) (within : slice < length busy) (here : list ≡ get_or busy slice []) where
  pub listed_ordered : (room : ℕ) → AreBusyBut room [] busy world → InOrder 0 (length roster.held) roster.held list
  listed_ordered room are =
      subst (λ (own : RosterNow). InOrder 0 (length own.held) own.held list) (sym roster_is)
      (subst (λ (xs : List ℕ). InOrder 0 (length (control_at world slice).held) (control_at world slice).held xs)
      (sym here) (are slice).ordered)

  pub leaves_list : (new : List ℕ) → IsLeft slot roster.held list new
      → IsWithoutSlot slice slot busy (set busy slice new) world
  leaves_list new left = record {
    here = subst (IsLeft slot (control_at world slice).held (get_or busy slice []))
        (sym (get_set busy slice new within))
        (subst (λ (xs : List ℕ). IsLeft slot (control_at world slice).held xs new) here
        (subst (λ (own : RosterNow). IsLeft slot own.held list new) roster_is left));
    others = λ other differ. get_set_other busy slice other new differ;
  }
