-- The control halves whose turn may change something: lists of their slots in the order of the halves.
use Rattle.std.proofs.Common.{◌≡◌, ℕ, zero, suc, ◌+◌, ◌<◌, ◌≤◌, ◌==◌, ◌||◌, Bool, true, false, nat_lt, min, Option, Some, None, List, [], ◌∷◌, ◌++◌, length, get_or, map, drop, cond, refl, sym, ap, subst, ◌∙◌, inl, inr, arith, true≢false}
use Rattle.std.specs.List.{insert, remove}
use Rattle.std.proofs.lemmas.Bool.{cases_eq, cases_lt, lt-ltb, le-ltb, le-leb, leb-true, ltb-false, eq-eqb, eqb-true, ne_eqb, and_parts, and_from}
use Rattle.epoch_schedule.specs.Slots.{SlotNow}
use Rattle.epoch_schedule.specs.Halves.{send, apply_some, apply_batch, batch_of, next_batch, Worked, work_behind, control_work}
use Rattle.epoch_schedule.specs.World.{HeldControl}
use Rattle.epoch_schedule.specs.ControlTurns.{marked, held_at}
use Rattle.epoch_schedule.proofs.Keeping.{cond_keeps}
use Rattle.epoch_schedule.specs.Busy.{is_still_by, is_still, InOrder}
use Rattle.epoch_schedule.specs.Rosters.{RosterNow}
use Rattle.epoch_schedule.specs.Rounds.{place_held, turn_of}
use Rattle.epoch_schedule.specs.Waiting.{is_in}
use Rattle.epoch_schedule.proofs.SlotSets.{or_more}
use Rattle.epoch_schedule.proofs.TurnOrder.{past, found, held_own, distance_on, distance_round}

-- still halves
looks_same : (slot : SlotNow) → slot.taken ≡ min (slot.applied + 1) (length slot.commands) → apply_some slot 0 ≡ slot
looks_same slot looked =
    let more : slot.applied + 0 ≡ slot.applied = omega arith in
    ap (λ n. record slot { taken = min (n + 1) (length slot.commands); applied = n }) more
    ∙ ap (λ n. record slot { taken = n; applied = slot.applied }) (sym looked)

abbrev still_as : (room : ℕ) → SlotNow → (unsent : Option ℕ) → Bool
still_as room slot unsent =
    is_still_by room slot.commands slot.arrived slot.taken slot.applied slot.sent unsent

still_turned_by : (room : ℕ) (slot : SlotNow) (unsent : Option ℕ) → still_as room slot unsent ≡ true
    → work_behind room slot unsent ≡ record { slot = slot; worked = false }
still_turned_by room slot None is =
    let parts = and_parts (slot.taken == min (slot.applied + 1) (length slot.commands)) (next_batch slot == 0) is in
    let looked = eqb-true slot.taken (min (slot.applied + 1) (length slot.commands)) parts.0 in
    let none = eqb-true (next_batch slot) 0 parts.1 in
    ap (λ n. record { slot = send room (apply_some slot n) n; worked = nat_lt 0 n }) none
    ∙ ap (λ (s : SlotNow). record { slot = s; worked = false }) (looks_same slot looked)
still_turned_by room slot (Some n) is =
    let full = leb-true room (length slot.sent) is in
    ap (λ test. cond test
    (record { slot = apply_batch room (record slot { unsent = None; sent = slot.sent ++ n ∷ [] }); worked = true })
    (record { slot = slot; worked = false })) (le-ltb (length slot.sent) room full)

pub still_turned : (room : ℕ) (slot : SlotNow) → is_still room slot ≡ true
    → control_work room slot ≡ record { slot = slot; worked = false }
still_turned room slot is = still_turned_by room slot slot.unsent is

zero_of : (n : ℕ) → nat_lt 0 n ≡ false → n ≡ 0
zero_of zero is = refl
zero_of (suc n) is = absurd (true≢false (sym (lt-ltb 0 (suc n) (omega arith)) ∙ is))

-- and so is each that had a turn without work
idle_still_by : (room : ℕ) (slot : SlotNow) (unsent : Option ℕ) → slot.unsent ≡ unsent
    → (work_behind room slot unsent).worked ≡ false → is_still room (work_behind room slot unsent).slot ≡ true
idle_still_by room slot None is idle =
    let none = zero_of (next_batch slot) idle in
    let same : slot.applied + 0 ≡ slot.applied = omega arith in
    let left = apply_some slot 0 in
    let batch : next_batch left ≡ 0 = ap (λ n. batch_of slot.arrived (drop n slot.commands)) same ∙ none in
    ap (λ n. is_still room (send room (apply_some slot n) n)) none
    ∙ ap (still_as room left) is
    ∙ and_from (left.taken == min (left.applied + 1) (length left.commands)) (next_batch left == 0)
    (eq-eqb left.taken (min (left.applied + 1) (length left.commands)) refl) (eq-eqb (next_batch left) 0 batch)
idle_still_by room slot (Some n) is idle = by (nat_lt (length slot.sent) room) refl idle
  where
    works : Worked
    works = record { slot = apply_batch room (record slot { unsent = None; sent = slot.sent ++ n ∷ [] }); worked = true }

    by : (test : Bool) → nat_lt (length slot.sent) room ≡ test
        → (cond test works (record { slot = slot; worked = false })).worked ≡ false
        → is_still room (cond test works (record { slot = slot; worked = false })).slot ≡ true
    by true room_is idle = absurd (true≢false idle)
    by false full idle =
        ap (still_as room slot) is ∙ le-leb room (length slot.sent) (ltb-false (length slot.sent) room full)

pub idle_still : (room : ℕ) (slot : SlotNow) → (control_work room slot).worked ≡ false
    → is_still room (control_work room slot).slot ≡ true
idle_still room slot idle = idle_still_by room slot slot.unsent refl idle

-- lists in order
abbrev pub at : List ℕ → ℕ → ℕ
at list j = get_or list j 0

pub order_at : (first last : ℕ) (held : List HeldControl) (list : List ℕ) (i : ℕ) → InOrder first last held list
    → i < length list → (first ≤ place_held (at list i) held) × (place_held (at list i) held < last)
order_at first last held [] i ordered within = absurd (omega (arith, within))
order_at first last held (s ∷ others) zero ordered within = (ordered.0, ordered.1)
order_at first last held (s ∷ others) (suc i) ordered within =
    let above = ordered.0 in
    let more = order_at (suc (place_held s held)) last held others i ordered.2 (omega (arith, within)) in
    let over = more.0 in
    (omega (arith, above, over), more.1)

pub order_rises : (first last : ℕ) (held : List HeldControl) (list : List ℕ) (i j : ℕ) → InOrder first last held list
    → i < j → j < length list → place_held (at list i) held < place_held (at list j) held
order_rises first last held [] i j ordered less within = absurd (omega (arith, within))
order_rises first last held (s ∷ others) i zero ordered less within = absurd (omega (arith, less))
order_rises first last held (s ∷ others) zero (suc j) ordered less within =
    let more = order_at (suc (place_held s held)) last held others j ordered.2 (omega (arith, within)) in
    let over = more.0 in
    omega (arith, over)
order_rises first last held (s ∷ others) (suc i) (suc j) ordered less within =
    order_rises (suc (place_held s held)) last held others i j ordered.2 (omega (arith, less)) (omega (arith, within))

pub order_most : (first last : ℕ) (held : List HeldControl) (list : List ℕ) (i j : ℕ) → InOrder first last held list
    → i ≤ j → j < length list → place_held (at list i) held ≤ place_held (at list j) held
order_most first last held list i j ordered less within = elim (cases_lt i j) [
  | inl below ↦ let more = order_rises first last held list i j ordered below within in omega (arith, more)
  | inr above ↦
      let same : i ≡ j = omega (arith, less, above) in
      let own = ap (λ k. place_held (at list k) held) same in
      omega (arith, own)
]

order_from : (lower first last more : ℕ) (held : List HeldControl) (list : List ℕ) → lower ≤ first → last ≤ more
    → InOrder first last held list → InOrder lower more held list
order_from lower first last more held [] less most ordered = tt
order_from lower first last more held (s ∷ others) less most ordered =
    let above = ordered.0 in
    let below = ordered.1 in (
      omega (arith, less, above),
      omega (arith, most, below),
      order_from (suc (place_held s held)) (suc (place_held s held)) last more held others (omega arith) most ordered.2,
    )

-- one slot has one place
same_place : (held : List HeldControl) (s t : ℕ) → place_held s held < length held
    → place_held s held ≡ place_held t held → s ≡ t
same_place held s t within same =
    sym (held_own s held within) ∙ ap (λ q. (held_at held q).slot) same
    ∙ held_own t held (omega (arith, within, same))

pub place_here : (held : List HeldControl) (q : ℕ) → q < length held
    → place_held (held_at held q).slot held < length held
place_here [] q within = absurd (omega (arith, within))
place_here (half ∷ others) zero within =
    let own = found half.slot half others (eq-eqb half.slot half.slot refl) in
    omega (arith, own)
place_here (half ∷ others) (suc q) within = elim (cases_eq half.slot (held_at others q).slot) [
  | inl same ↦
      let own = found (held_at others q).slot half others (eq-eqb half.slot (held_at others q).slot same) in
      omega (arith, own)
  | inr differ ↦
      let own = past (held_at others q).slot half others (ne_eqb half.slot (held_at others q).slot differ) in
      let more = place_here others q (omega (arith, within)) in
      omega (arith, own, more)
]

-- whether a slot is in a list
pub none_in : (list : List ℕ) (s : ℕ) → ((j : ℕ) → j < length list → at list j ≡ s → ⊥) → is_in list s ≡ false
none_in [] s none = refl
none_in (own ∷ others) s none =
    ap (λ test. test || is_in others s) (ne_eqb own s (λ same. none 0 (omega arith) same))
    ∙ none_in others s (λ j within. none (suc j) (omega (arith, within)))

pub in_at : (list : List ℕ) (j : ℕ) → j < length list → is_in list (at list j) ≡ true
in_at [] j within = absurd (omega (arith, within))
in_at (own ∷ others) zero within = ap (λ test. test || is_in others own) (eq-eqb own own refl)
in_at (own ∷ others) (suc j) within = or_more (own == at others j) (is_in others (at others j)) (in_at others j (omega (arith, within)))

pub in_where : (list : List ℕ) (s : ℕ) → is_in list s ≡ true → (j : ℕ) × (j < length list) × (at list j ≡ s)
in_where [] s is = absurd (true≢false (sym is))
in_where (own ∷ others) s is = elim (cases_eq own s) [
  | inl same ↦ (0, omega arith, same)
  | inr differ ↦
      let more = in_where others s (sym (ap (λ test. test || is_in others s) (ne_eqb own s differ)) ∙ is) in
      let within = more.1 in
      (suc more.0, omega (arith, within), more.2)
]

-- a slot is put into its place
pub order_insert : (first last : ℕ) (held : List HeldControl) (list : List ℕ) (n s : ℕ) → n ≤ length list
    → InOrder first last held list
    → ((j : ℕ) → j < n → place_held (at list j) held < place_held s held)
    → (n < length list → place_held s held < place_held (at list n) held)
    → first ≤ place_held s held → place_held s held < last → InOrder first last held (insert list n s)
order_insert first last held [] zero s few ordered before behind above below = (above, below, tt)
order_insert first last held [] (suc n) s few ordered before behind above below = absurd (omega (arith, few))
order_insert first last held (own ∷ others) zero s few ordered before behind above below =
    (above, below, (behind (omega arith), ordered.1, ordered.2))
order_insert first last held (own ∷ others) (suc n) s few ordered before behind above below = (
  ordered.0,
  ordered.1,
  order_insert (suc (place_held own held)) last held others n s (omega (arith, few)) ordered.2
      (λ j less. before (suc j) (omega (arith, less))) (λ within. behind (omega (arith, within)))
      (before 0 (omega arith)) below,
)

pub in_insert : (list : List ℕ) (n s t : ℕ) → n ≤ length list → is_in (insert list n s) t ≡ ((s == t) || is_in list t)
in_insert [] zero s t few = refl
in_insert [] (suc n) s t few = absurd (omega (arith, few))
in_insert (own ∷ others) zero s t few = refl
in_insert (own ∷ others) (suc n) s t few =
    ap (λ test. (own == t) || test) (in_insert others n s t (omega (arith, few)))
    ∙ swapped (own == t) (s == t) (is_in others t)
  where
    swapped : (one two three : Bool) → (one || (two || three)) ≡ (two || (one || three))
    swapped true true three = refl
    swapped true false three = refl
    swapped false two three = refl

-- and left out
pub order_remove : (first last : ℕ) (held : List HeldControl) (list : List ℕ) (n : ℕ) → n < length list
    → InOrder first last held list → InOrder first last held (remove list n)
order_remove first last held [] n within ordered = absurd (omega (arith, within))
order_remove first last held (own ∷ others) zero within ordered =
    let above = ordered.0 in
    order_from first (suc (place_held own held)) last last held others (omega (arith, above)) (omega arith) ordered.2
order_remove first last held (own ∷ others) (suc n) within ordered =
    (ordered.0, ordered.1, order_remove (suc (place_held own held)) last held others n (omega (arith, within)) ordered.2)

pub in_remove : (list : List ℕ) (n t : ℕ) → (at list n == t) ≡ false → n < length list
    → is_in (remove list n) t ≡ is_in list t
in_remove [] n t other within = absurd (omega (arith, within))
in_remove (own ∷ others) zero t other within = sym (ap (λ test. test || is_in others t) other)
in_remove (own ∷ others) (suc n) t other within =
    ap (λ test. (own == t) || test) (in_remove others n t other (omega (arith, within)))

none_below : (first last : ℕ) (held : List HeldControl) (list : List ℕ) (s : ℕ) → InOrder first last held list
    → place_held s held < first → is_in list s ≡ false
none_below first last held list s ordered below =
    none_in list s (λ j within same.
    let over = (order_at first last held list j ordered within).0 in
    let own = ap (λ t. place_held t held) same in
    omega (arith, over, own, below))

pub removed_none : (first last : ℕ) (held : List HeldControl) (list : List ℕ) (n : ℕ) → InOrder first last held list
    → n < length list → is_in (remove list n) (at list n) ≡ false
removed_none first last held [] n ordered within = absurd (omega (arith, within))
removed_none first last held (own ∷ others) zero ordered within =
    none_below (suc (place_held own held)) last held others own ordered.2 (omega arith)
removed_none first last held (own ∷ others) (suc n) ordered within =
    let more = order_at (suc (place_held own held)) last held others n ordered.2 (omega (arith, within)) in
    let over = more.0 in
    ap (λ test. test || is_in (remove others n) (at others n))
    (ne_eqb own (at others n) (λ same.
    let both = ap (λ t. place_held t held) same in
    omega (arith, over, both)))
    ∙ removed_none (suc (place_held own held)) last held others n ordered.2 (omega (arith, within))

-- a slot that isn't at its place isn't there
pub absent_by : (last : ℕ) (held : List HeldControl) (list : List ℕ) (n s : ℕ) → InOrder 0 last held list
    → ((j : ℕ) → j < n → place_held (at list j) held < place_held s held)
    → ((j : ℕ) → n ≤ j → j < length list → place_held s held ≤ place_held (at list j) held)
    → (n < length list → (at list n == s) ≡ false) → is_in list s ≡ false
absent_by last held list n s ordered before behind other =
    none_in list s (λ j within same.
    let both = ap (λ t. place_held t held) same in
    elim (cases_lt j n) [
      | inl less ↦ let under = before j less in omega (arith, under, both)
      | inr more ↦ elim (cases_eq n j) [
        | inl here ↦
            true≢false (sym (eq-eqb (at list n) s (ap (at list) here ∙ same)) ∙ other (omega (arith, here, within)))
        | inr beyond ↦
            let rise = order_rises 0 last held list n j ordered (omega (arith, more, beyond)) within in
            let least = behind n (omega arith) (omega (arith, more, within)) in
            omega (arith, rise, least, both)
      ]
    ])

pub strictly_behind : (held : List HeldControl) (list : List ℕ) (n s : ℕ) → place_held s held < length held
    → place_held s held ≤ place_held (at list n) held → (at list n == s) ≡ false
    → place_held s held < place_held (at list n) held
strictly_behind held list n s there most other = elim (cases_eq (place_held s held) (place_held (at list n) held)) [
  | inl same ↦
      absurd (true≢false (sym (eq-eqb (at list n) s (sym (same_place held s (at list n) there same))) ∙ other))
  | inr differ ↦ omega (arith, most, differ)
]

-- other halves are held in the same order
pub order_same : (first last more : ℕ) (old new : List HeldControl) (list : List ℕ) → last ≤ more
    → ((t : ℕ) → place_held t old < last → place_held t new ≡ place_held t old) → InOrder first last old list
    → InOrder first more new list
order_same first last more old new [] most same ordered = tt
order_same first last more old new (s ∷ others) most same ordered =
    let above = ordered.0 in
    let below = ordered.1 in
    let own = same s below in (
      omega (arith, above, own),
      omega (arith, below, own, most),
      subst (λ place. InOrder (suc place) more new others) (sym own)
          (order_same (suc (place_held s old)) last more old new others most same ordered.2),
    )

-- one more half
pub place_more : (held : List HeldControl) (half : HeldControl) (t : ℕ) → place_held t held < length held
    → place_held t (held ++ half ∷ []) ≡ place_held t held
place_more [] half t within = absurd (omega (arith, within))
place_more (own ∷ others) half t within = elim (cases_eq own.slot t) [
  | inl same ↦
      let is = eq-eqb own.slot t same in
      found t own (others ++ half ∷ []) is ∙ sym (found t own others is)
  | inr differ ↦
      let is = ne_eqb own.slot t differ in
      let one = past t own others is in
      past t own (others ++ half ∷ []) is ∙ ap suc (place_more others half t (omega (arith, within, one))) ∙ sym one
]

-- marked halves
pub marked_slot : (slot until : ℕ) (half : HeldControl) → (marked slot until half).slot ≡ half.slot
marked_slot slot until half =
    cond_keeps (λ (new : HeldControl). new.slot ≡ half.slot) (half.slot == slot) (record half { until = Some until })
    half refl refl

pub place_marked : (slot until : ℕ) (held : List HeldControl) (t : ℕ)
    → place_held t (map (marked slot until) held) ≡ place_held t held
place_marked slot until [] t = refl
place_marked slot until (own ∷ others) t = elim (cases_eq own.slot t) [
  | inl same ↦
      found t (marked slot until own) (map (marked slot until) others)
      (ap (λ s. s == t) (marked_slot slot until own) ∙ eq-eqb own.slot t same)
      ∙ sym (found t own others (eq-eqb own.slot t same))
  | inr differ ↦
      past t (marked slot until own) (map (marked slot until) others)
      (ap (λ s. s == t) (marked_slot slot until own) ∙ ne_eqb own.slot t differ)
      ∙ ap suc (place_marked slot until others t) ∙ sym (past t own others (ne_eqb own.slot t differ))
]

-- halves of a list before and behind the half of a place in it
pub before_middle : (last : ℕ) (held : List HeldControl) (list : List ℕ) (middle own most : ℕ) → own ≡ at list middle
    → InOrder 0 last held list → middle < length list → place_held own held < most → (j : ℕ) → j < middle + 1
    → place_held (at list j) held < most
before_middle last held list middle own most is ordered within below j less =
    let same = ap (λ t. place_held t held) is in
    let more = order_most 0 last held list j middle ordered (omega (arith, less)) within in
    omega (arith, more, same, below)

pub behind_middle : (last : ℕ) (held : List HeldControl) (list : List ℕ) (middle own least : ℕ) → own ≡ at list middle
    → InOrder 0 last held list → least ≤ place_held own held → (j : ℕ) → middle ≤ j → j < length list
    → least ≤ place_held (at list j) held
behind_middle last held list middle own least is ordered above j more within =
    let same = ap (λ t. place_held t held) is in
    let rise = order_most 0 last held list middle j ordered more within in
    omega (arith, rise, same, above)

-- which half of a list has its turn first: that from the cursor on, or else the first one
pub first_on : (roster : RosterNow) (list : List ℕ) (from : ℕ) → InOrder 0 (length roster.held) roster.held list
    → from < length list
    → ((j : ℕ) → j < from → place_held (at list j) roster.held < roster.cursor)
    → ((j : ℕ) → from ≤ j → j < length list → roster.cursor ≤ place_held (at list j) roster.held)
    → (j : ℕ) → j < length list → turn_of roster (at list from) ≤ turn_of roster (at list j)
first_on roster list from ordered within before behind j below =
    let own = place_held (at list from) roster.held in
    let other = place_held (at list j) roster.held in
    let count = length roster.held in
    let above = behind from (omega arith) within in
    let far = distance_on roster.cursor own count above in
    let most = (order_at 0 count roster.held list from ordered within).1 in
    elim (cases_lt j from) [
      | inl less ↦
          let round = distance_round roster.cursor other count (before j less) in
          omega (arith, far, round, most, above)
      | inr more ↦
          let beyond = distance_on roster.cursor other count (behind j more below) in
          let rise = order_most 0 count roster.held list from j ordered more below in
          omega (arith, far, beyond, rise)
    ]

pub first_round : (roster : RosterNow) (list : List ℕ) → InOrder 0 (length roster.held) roster.held list
    → ((j : ℕ) → j < length list → place_held (at list j) roster.held < roster.cursor)
    → (j : ℕ) → j < length list → turn_of roster (at list 0) ≤ turn_of roster (at list j)
first_round roster list ordered before j below =
    let own = place_held (at list 0) roster.held in
    let other = place_held (at list j) roster.held in
    let count = length roster.held in
    let far = distance_round roster.cursor own count (before 0 (omega (arith, below))) in
    let round = distance_round roster.cursor other count (before j below) in
    let rise = order_most 0 count roster.held list 0 j ordered (omega arith) below in
    omega (arith, far, round, rise)
