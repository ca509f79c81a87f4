-- Places of halves, and the order of their turns.
use Rattle.std.proofs.Common.{◌≡◌, ℕ, zero, suc, ◌+◌, ◌-◌, ◌<◌, ◌≤◌, ◌==◌, ◌||◌, Bool, true, false, not, List, [], ◌∷◌, length, cond, refl, sym, ap, ◌∙◌, inl, inr, arith, true≢false}
use Rattle.std.proofs.lemmas.Bool.{cases_eq, cases_lt, lt-ltb, le-ltb, eq-eqb, ne_eqb}
use Rattle.epoch_schedule.specs.World.{HeldControl, cursor_next}
use Rattle.epoch_schedule.specs.ControlTurns.{held_at}
use Rattle.epoch_schedule.specs.Rounds.{slots_held, EachOnce, place_held, distance, place_on}
use Rattle.epoch_schedule.specs.Waiting.{is_in}

-- each slot once
pub once_more : (last more : ℕ) (xs : List ℕ) → last ≤ more → EachOnce last xs → EachOnce more xs
once_more last more [] few once = tt
once_more last more (s ∷ others) few once =
    let below = once.0 in
    (omega (arith, few, below), once.1, once_more last more others few once.2)

-- the place of a slot
pub past : (s : ℕ) (half : HeldControl) (others : List HeldControl) → (half.slot == s) ≡ false
    → place_held s (half ∷ others) ≡ suc (place_held s others)
past s half others off =
    let next : 1 + place_held s others ≡ suc (place_held s others) = omega arith in
    ap (λ test. cond (not test) (1 + place_held s others) 0) off ∙ next

pub found : (s : ℕ) (half : HeldControl) (others : List HeldControl) → (half.slot == s) ≡ true
    → place_held s (half ∷ others) ≡ 0
found s half others is = ap (λ test. cond (not test) (1 + place_held s others) 0) is

pub in_there : (held : List HeldControl) (q : ℕ) → q < length held → is_in (slots_held held) (held_at held q).slot ≡ true
in_there [] q within = absurd (omega (arith, within))
in_there (half ∷ others) zero within = ap (λ test. test || is_in (slots_held others) half.slot) (eq-eqb half.slot half.slot refl)
in_there (half ∷ others) (suc q) within =
    later (half.slot == (held_at others q).slot) (in_there others q (omega (arith, within)))
  where
    later : (test : Bool) {more : Bool} → more ≡ true → (test || more) ≡ true
    later true is = refl
    later false is = is

pub once_place : (last : ℕ) (held : List HeldControl) (q : ℕ) → q < length held → EachOnce last (slots_held held)
    → place_held (held_at held q).slot held ≡ q
once_place last [] q within once = absurd (omega (arith, within))
once_place last (half ∷ others) zero within once = found half.slot half others (eq-eqb half.slot half.slot refl)
once_place last (half ∷ others) (suc q) within once =
    let s = (held_at others q).slot in
    past s half others (ne_eqb half.slot s (λ same. true≢false
    (sym (in_there others q (omega (arith, within)))
    ∙ ap (is_in (slots_held others)) (sym same) ∙ once.1)))
    ∙ ap suc (once_place last others q (omega (arith, within)) once.2)

pub below_at : (last : ℕ) (held : List HeldControl) (q : ℕ) → q < length held → EachOnce last (slots_held held)
    → (held_at held q).slot < last
below_at last [] q within once = absurd (omega (arith, within))
below_at last (half ∷ others) zero within once = once.0
below_at last (half ∷ others) (suc q) within once = below_at last others q (omega (arith, within)) once.2

-- at its place stands a half of the slot
pub held_own : (s : ℕ) (held : List HeldControl) → place_held s held < length held
    → (held_at held (place_held s held)).slot ≡ s
held_own s [] within = absurd (omega (arith, within))
held_own s (half ∷ others) within = elim (cases_eq half.slot s) [
  | inl same ↦
      ap (λ q. (held_at (half ∷ others) q).slot) (found s half others (eq-eqb half.slot s same)) ∙ same
  | inr differ ↦
      let next = past s half others (ne_eqb half.slot s differ) in
      ap (λ q. (held_at (half ∷ others) q).slot) next ∙ held_own s others (omega (arith, within, next))
]

-- places round a list
pub next_within : (place count : ℕ) → place + 1 < count → cursor_next place count ≡ place + 1
next_within place count within = ap (λ test. cond test (place + 1) 0) (lt-ltb (place + 1) count within)

pub next_first : (place count : ℕ) → count ≤ place + 1 → cursor_next place count ≡ 0
next_first place count past = ap (λ test. cond test (place + 1) 0) (le-ltb (place + 1) count past)

pub on_within : (place n count : ℕ) → place + n < count → place_on place n count ≡ place + n
on_within place n count within = ap (λ test. cond test (place + n) (place + n - count)) (lt-ltb (place + n) count within)

pub on_round : (place n count : ℕ) → count ≤ place + n → place_on place n count ≡ place + n - count
on_round place n count past = ap (λ test. cond test (place + n) (place + n - count)) (le-ltb (place + n) count past)

pub on_next : (place n count : ℕ) → place < count → n < count
    → cursor_next (place_on place n count) count ≡ place_on place (suc n) count
on_next place n count within few = elim (cases_lt (place + n) count) [
  | inl straight ↦
      let own = on_within place n count straight in
      elim (cases_lt (place + suc n) count) [
        | inl further ↦
            let same : place_on place n count + 1 ≡ place + suc n = omega (arith, own) in
            next_within (place_on place n count) count (omega (arith, own, further))
            ∙ same ∙ sym (on_within place (suc n) count further)
        | inr end ↦
            let none : 0 ≡ place + suc n - count = omega (arith, straight, end) in
            next_first (place_on place n count) count (omega (arith, own, end))
            ∙ none ∙ sym (on_round place (suc n) count end)
      ]
  | inr round ↦
      let own = on_round place n count round in
      let same : place_on place n count + 1 ≡ place + suc n - count = omega (arith, own, round) in
      next_within (place_on place n count) count (omega (arith, own, round, within, few))
      ∙ same ∙ sym (on_round place (suc n) count (omega (arith, round)))
]

pub distance_on : (place other count : ℕ) → place ≤ other → distance place other count ≡ other - place
distance_on place other count above =
    ap (λ test. cond test (other + count - place) (other - place)) (le-ltb other place above)

pub distance_round : (place other count : ℕ) → other < place → distance place other count ≡ other + count - place
distance_round place other count below =
    ap (λ test. cond test (other + count - place) (other - place)) (lt-ltb other place below)

pub distance_below : (place other count : ℕ) → place < count → other < count → distance place other count < count
distance_below place other count within there = elim (cases_lt other place) [
  | inl before ↦ let far = distance_round place other count before in omega (arith, far, before, within)
  | inr behind ↦ let far = distance_on place other count behind in omega (arith, far, there)
]

pub record Turn (place n count : ℕ) : Type 0 where
  pub within : place_on place n count < count
  pub turn : distance place (place_on place n count) count ≡ n

pub turn_on : (place n count : ℕ) → place < count → n < count → Turn place n count
turn_on place n count within few = elim (cases_lt (place + n) count) [
  | inl straight ↦
      let own = on_within place n count straight in
      let far = distance_on place (place_on place n count) count (omega (arith, own)) in
      record { within = omega (arith, own, straight); turn = omega (arith, own, far) }
  | inr round ↦
      let own = on_round place n count round in
      let far = distance_round place (place_on place n count) count (omega (arith, own, round, few, within)) in
      record { within = omega (arith, own, within, few, round); turn = omega (arith, own, far, round, within) }
]

pub on_back : (place other count : ℕ) → place < count → other < count
    → place_on place (distance place other count) count ≡ other
on_back place other count within there = elim (cases_lt other place) [
  | inl before ↦
      let far = distance_round place other count before in
      let own = on_round place (distance place other count) count (omega (arith, far, within)) in
      omega (arith, own, far, within)
  | inr behind ↦
      let far = distance_on place other count behind in
      let own = on_within place (distance place other count) count (omega (arith, far, behind, there)) in
      omega (arith, own, far, behind)
]
