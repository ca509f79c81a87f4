-- The list of the slots for which something is still to be done.
use Rattle.std.proofs.Common.{◌≡◌, ◌≢◌, ℕ, zero, suc, ◌+◌, ◌-◌, ◌<◌, ◌≤◌, Bool, true, false, true≢false, cond, List, []}
use Rattle.std.proofs.Common.{◌∷◌, ◌++◌, length, take, drop, get_or, refl, sym, ap, ◌∙◌, subst, arith}
use Rattle.std.specs.Prelude.{nat_eq, nat_lt, nat_le, ◌&&◌, ◌||◌, filter, count_by}
use Rattle.std.specs.List.{insert}
use Rattle.std.proofs.lemmas.List.Sums.{sum_by-cons}
use Rattle.std.proofs.lemmas.Bool.{lt-ltb, le-leb, ltb-true, ltb-false, leb-true, eqb-true, eqb-false, eq-eqb, le-ltb}
use Rattle.migration.specs.DataDue.{is_among, is_rising, Joins}

both : (a b : Bool) → (a && b) ≡ true → (a ≡ true) × (b ≡ true)
both true b e = (refl, e)
both false b e = absurd (true≢false (sym e))

together : (a b : Bool) → a ≡ true → b ≡ true → (a && b) ≡ true
together a b p q = λ i. p i && q i

or_none : (a b : Bool) → (a || b) ≡ false → (a ≡ false) × (b ≡ false)
or_none true b e = absurd (true≢false e)
or_none false b e = (refl, e)

or_left : (a b : Bool) → a ≡ true → (a || b) ≡ true
or_left a b is = ap (λ t. t || b) is

or_right : (a b : Bool) → b ≡ true → (a || b) ≡ true
or_right true b is = refl
or_right false b is = is

or_more : (a b c : Bool) → (a || b) ≡ true → (b ≡ true → c ≡ true) → (a || c) ≡ true
or_more true b c is more = refl
or_more false b c is more = more is

or_else : (a b : Bool) → a ≡ false → (a || b) ≡ true → b ≡ true
or_else a b none is = sym (ap (λ t. t || b) none) ∙ is

parts : (least end x : ℕ) (xs : List ℕ) → is_rising least end (x ∷ xs) ≡ true
    → (least ≤ x) × (x < end) × (is_rising (x + 1) end xs ≡ true)
parts least end x xs is =
    let all = both (nat_le least x && nat_lt x end) (is_rising (x + 1) end xs) is in
    let two = both (nat_le least x) (nat_lt x end) all.0 in
    (leb-true least x two.0, ltb-true x end two.1, all.1)

made : (least end x : ℕ) (xs : List ℕ) → least ≤ x → x < end → is_rising (x + 1) end xs ≡ true
    → is_rising least end (x ∷ xs) ≡ true
made least end x xs low high rest =
    together (nat_le least x && nat_lt x end) (is_rising (x + 1) end xs)
    (together (nat_le least x) (nat_lt x end) (le-leb least x low) (lt-ltb x end high)) rest

from_lower : (lower least end : ℕ) (xs : List ℕ) → lower ≤ least → is_rising least end xs ≡ true
    → is_rising lower end xs ≡ true
from_lower lower least end [] low is = refl
from_lower lower least end (x ∷ xs) low is =
    let p = parts least end x xs is in made lower end x xs (let a = p.0 in omega arith) p.1 p.2

pub to_higher : (least end higher : ℕ) (xs : List ℕ) → end ≤ higher → is_rising least end xs ≡ true
    → is_rising least higher xs ≡ true
to_higher least end higher [] high is = refl
to_higher least end higher (x ∷ xs) high is =
    let p = parts least end x xs is in
    made least higher x xs p.0 (let a = p.1 in omega arith) (to_higher (x + 1) end higher xs high p.2)

few : (least end : ℕ) (xs : List ℕ) → is_rising least end xs ≡ true → length xs ≤ end - least
few least end [] is = omega arith
few least end (x ∷ xs) is =
    let p = parts least end x xs is in
    let a = p.0 in let b = p.1 in let n = few (x + 1) end xs p.2 in omega arith

-- a slot in its place
abbrev with_slot : ℕ → List ℕ → List ℕ
with_slot slot [] = slot ∷ []
with_slot slot (x ∷ xs) = cond (nat_lt x slot) (x ∷ with_slot slot xs) (slot ∷ x ∷ xs)

with_len : (slot : ℕ) (xs : List ℕ) → length (with_slot slot xs) ≡ length xs + 1
with_len slot [] = omega arith
with_len slot (x ∷ xs) = elim (nat_lt x slot) as (λ b. length (cond b (x ∷ with_slot slot xs) (slot ∷ x ∷ xs))
    ≡ length (x ∷ xs) + 1) [
      | true ↦ let n = with_len slot xs in omega arith
      | false ↦ omega arith
    ]

with_rising : (least end slot : ℕ) (xs : List ℕ) → is_rising least end xs ≡ true → least ≤ slot → slot < end
    → is_among slot xs ≡ false → is_rising least end (with_slot slot xs) ≡ true
with_rising least end slot [] is low high none = made least end slot [] low high refl
with_rising least end slot (x ∷ xs) is low high none =
    let p = parts least end x xs is in
    let n = or_none (nat_eq x slot) (is_among slot xs) none in
    elim (nat_lt x slot) as (λ b. nat_lt x slot ≡ b
    → is_rising least end (cond b (x ∷ with_slot slot xs) (slot ∷ x ∷ xs)) ≡ true) [
      | true ↦ λ e. made least end x (with_slot slot xs) p.0 p.1
          (with_rising (x + 1) end slot xs p.2 (let l = ltb-true x slot e in omega arith) high n.1)
      | false ↦ λ e.
          let apart : x ≢ slot = eqb-false x slot n.0 in
          made least end slot (x ∷ xs) low high
          (made (slot + 1) end x xs (let l = ltb-false x slot e in omega arith) p.1 p.2)
    ] refl

with_here : (slot : ℕ) (xs : List ℕ) → is_among slot (with_slot slot xs) ≡ true
with_here slot [] = or_left (nat_eq slot slot) false (eq-eqb slot slot refl)
with_here slot (x ∷ xs) = elim (nat_lt x slot) as (λ b. is_among slot (cond b (x ∷ with_slot slot xs)
    (slot ∷ x ∷ xs)) ≡ true) [
      | true ↦ or_right (nat_eq x slot) (is_among slot (with_slot slot xs)) (with_here slot xs)
      | false ↦ or_left (nat_eq slot slot) (is_among slot (x ∷ xs)) (eq-eqb slot slot refl)
    ]

with_other : (slot other : ℕ) (xs : List ℕ) → is_among other xs ≡ true → is_among other (with_slot slot xs) ≡ true
with_other slot other [] is = absurd (true≢false (sym is))
with_other slot other (x ∷ xs) is = elim (nat_lt x slot) as (λ b. is_among other (cond b (x ∷ with_slot slot xs)
    (slot ∷ x ∷ xs)) ≡ true) [
      | true ↦ or_more (nat_eq x other) (is_among other xs) (is_among other (with_slot slot xs)) is
          (with_other slot other xs)
      | false ↦ or_right (nat_eq slot other) (is_among other (x ∷ xs)) is
    ]

none_below : (least end slot : ℕ) (xs : List ℕ) → is_rising least end xs ≡ true → slot ≤ least
    → count_by (λ other. nat_lt other slot) xs ≡ 0
none_below least end slot [] is low = refl
none_below least end slot (x ∷ xs) is low =
    let p = parts least end x xs is in
    let e : nat_lt x slot ≡ false = le-ltb x slot (let a = p.0 in omega arith) in
    let n = none_below (x + 1) end slot xs p.2 (let a = p.0 in omega arith) in
    let one : ◌≡◌ {A = ℕ} (cond (nat_lt x slot) 1 0) 0 = ap (λ b. cond b 1 0) e in
    let c = sum_by-cons (λ other. cond (nat_lt other slot) 1 0) x xs in omega (arith, one, n, c)

abbrev put_in : ℕ → ℕ → List ℕ → List ℕ
put_in slot at xs = take at xs ++ slot ∷ drop at xs

-- behind all that are lower a slot stands in its place
in_place : (least end slot : ℕ) (xs : List ℕ) → is_rising least end xs ≡ true
    → put_in slot (count_by (λ other. nat_lt other slot) xs) xs ≡ with_slot slot xs
in_place least end slot [] is = refl
in_place least end slot (x ∷ xs) is =
    let p = parts least end x xs is in
    elim (nat_lt x slot) as (λ b. nat_lt x slot ≡ b
    → put_in slot (count_by (λ other. nat_lt other slot) (x ∷ xs)) (x ∷ xs)
    ≡ cond b (x ∷ with_slot slot xs) (slot ∷ x ∷ xs)) [
      | true ↦ λ e.
          let one : ◌≡◌ {A = ℕ} (cond (nat_lt x slot) 1 0) 1 = ap (λ b. cond b 1 0) e in
          let n : count_by (λ other. nat_lt other slot) (x ∷ xs) ≡ suc (count_by (λ other. nat_lt other slot) xs) =
          let c = sum_by-cons (λ other. cond (nat_lt other slot) 1 0) x xs in omega (arith, one, c) in
          ap (λ k. put_in slot k (x ∷ xs)) n ∙ ap (λ l. x ∷ l) (in_place (x + 1) end slot xs p.2)
      | false ↦ λ e.
          let n : count_by (λ other. nat_lt other slot) (x ∷ xs) ≡ 0 =
          none_below x end slot (x ∷ xs) (made x end x xs (omega arith) p.1 p.2) (ltb-false x slot e) in
          ap (λ k. put_in slot k (x ∷ xs)) n
    ] refl

-- a slot joins a list
pub joins_in : (slot end : ℕ) (busy : Bool) (due later : List ℕ) → slot < end → is_rising 0 end due ≡ true
    → is_among slot due ≡ false → later ≡ insert due (count_by (λ other. nat_lt other slot) due) slot
    → Joins busy slot end due later
joins_in slot end busy due later within is none put =
    let same : with_slot slot due ≡ later = sym (in_place 0 end slot due is) ∙ sym put in record {
      rising = subst (λ l. is_rising 0 end l ≡ true) same (with_rising 0 end slot due is (omega arith) within none);
      here = λ _. subst (λ l. is_among slot l ≡ true) same (with_here slot due);
      others = λ other among. subst (λ l. is_among other l ≡ true) same (with_other slot other due among);
    }

-- there is room for one more
pub room_more : (slot end : ℕ) (due : List ℕ) → is_rising 0 end due ≡ true → slot < end → is_among slot due ≡ false
    → length due < end
room_more slot end due is within none =
    let n = few 0 end (with_slot slot due) (with_rising 0 end slot due is (omega arith) within none) in
    let m = with_len slot due in omega arith

pub kept_rising : (p : ℕ → Bool) (least end : ℕ) (xs : List ℕ) → is_rising least end xs ≡ true
    → is_rising least end (filter p xs) ≡ true
kept_rising p least end [] is = refl
kept_rising p least end (x ∷ xs) is =
    let q = parts least end x xs is in
    let more = kept_rising p (x + 1) end xs q.2 in
    elim (p x) as (λ b. is_rising least end (cond b (x ∷ filter p xs) (filter p xs)) ≡ true) [
      | true ↦ made least end x (filter p xs) q.0 q.1 more
      | false ↦ from_lower least (x + 1) end (filter p xs) (let a = q.0 in omega arith) more
    ]

pub kept_among : (p : ℕ → Bool) (slot : ℕ) (xs : List ℕ) → is_among slot xs ≡ true → p slot ≡ true
    → is_among slot (filter p xs) ≡ true
kept_among p slot [] is passes = is
kept_among p slot (x ∷ xs) is passes =
    elim (nat_eq x slot) as (λ b. nat_eq x slot ≡ b
    → is_among slot (cond (p x) (x ∷ filter p xs) (filter p xs)) ≡ true) [
      | true ↦ λ e.
          let here : p x ≡ true = ap p (eqb-true x slot e) ∙ passes in
          ap (λ b. is_among slot (cond b (x ∷ filter p xs) (filter p xs))) here
          ∙ or_left (nat_eq x slot) (is_among slot (filter p xs)) e
      | false ↦ λ e.
          let more = kept_among p slot xs (or_else (nat_eq x slot) (is_among slot xs) e is) passes in
          elim (p x) as (λ b. is_among slot (cond b (x ∷ filter p xs) (filter p xs)) ≡ true) [
            | true ↦ or_right (nat_eq x slot) (is_among slot (filter p xs)) more
            | false ↦ more
          ]
    ] refl

-- where a slot stands
pub among_at : (slot : ℕ) (xs : List ℕ) → is_among slot xs ≡ true
    → (k : ℕ) × (k < length xs) × (get_or xs k 0 ≡ slot)
among_at slot [] is = absurd (true≢false (sym is))
among_at slot (x ∷ xs) is = elim (nat_eq x slot) as (λ b. nat_eq x slot ≡ b
    → (k : ℕ) × (k < length (x ∷ xs)) × (get_or (x ∷ xs) k 0 ≡ slot)) [
      | true ↦ λ e. (zero, omega arith, eqb-true x slot e)
      | false ↦ λ e.
          let there = among_at slot xs (or_else (nat_eq x slot) (is_among slot xs) e is) in
          (suc there.0, (let a = there.1 in omega arith), there.2)
    ] refl

pub at_among : (slot k : ℕ) (xs : List ℕ) → k < length xs → get_or xs k 0 ≡ slot → is_among slot xs ≡ true
at_among slot k [] within is = absurd (omega arith)
at_among slot zero (x ∷ xs) within is = or_left (nat_eq x slot) (is_among slot xs) (eq-eqb x slot is)
at_among slot (suc k) (x ∷ xs) within is =
    or_right (nat_eq x slot) (is_among slot xs) (at_among slot k xs (omega arith) is)

-- each is below the end
pub among_below : (slot least end : ℕ) (xs : List ℕ) → is_rising least end xs ≡ true → is_among slot xs ≡ true
    → slot < end
among_below slot least end [] is among = absurd (true≢false (sym among))
among_below slot least end (x ∷ xs) is among =
    let p = parts least end x xs is in
    elim (nat_eq x slot) as (λ b. nat_eq x slot ≡ b → slot < end) [
      | true ↦ λ e. let same = eqb-true x slot e in let a = p.1 in omega arith
      | false ↦ λ e. among_below slot (x + 1) end xs p.2 (or_else (nat_eq x slot) (is_among slot xs) e among)
    ] refl
