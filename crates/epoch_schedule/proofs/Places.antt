-- Halves at their indices, with holes where some left, and their places.
use Rattle.std.proofs.Common.{◌≡◌, ℕ, zero, suc, ◌+◌, ◌-◌, ◌<◌, ◌≤◌, ◌==◌, Bool, true, false, not, Option, Some, None, is_some, List, [], ◌∷◌, ◌++◌, length, take, set, cond, refl, sym, ap, ◌∙◌, inl, inr, arith, add-one, true≢false}
use Rattle.std.specs.List.{prefix_len}
use Rattle.std.proofs.lemmas.Bool.{cases_lt, eq-eqb, lt-ltb, le-ltb}
use Rattle.epoch_schedule.specs.World.{HeldControl, cursor_within, cursor_behind, cursor_next}
use Rattle.epoch_schedule.specs.ControlTurns.{without, held_at}
use Rattle.epoch_schedule.specs.Rosters.{present, entry, place_at, IsHalf, StandsAt, Lacks}
use Rattle.epoch_schedule.specs.Rounds.{place_held}

pub none_half : {half : HeldControl} {X : Type 0} → None ≡ Some half → X
none_half is = absurd (true≢false (sym (ap is_some is)))

pub same_half : (one other : HeldControl) → Some one ≡ Some other → one ≡ other
same_half one other is = ap (λ (o : Option HeldControl). or_one o) is
  where
    or_one : Option HeldControl → HeldControl
    or_one None = one
    or_one (Some half) = half

-- indices
pub nothing_past : (halves : List (Option HeldControl)) (i : ℕ) → length halves ≤ i → entry halves i ≡ None
nothing_past [] zero past = refl
nothing_past [] (suc i) past = refl
nothing_past (x ∷ xs) zero past = absurd (omega (arith, past))
nothing_past (x ∷ xs) (suc i) past = nothing_past xs i (omega (arith, past))

pub half_within : (halves : List (Option HeldControl)) (i : ℕ) (half : HeldControl) → entry halves i ≡ Some half
    → i < length halves
half_within [] zero half is = none_half is
half_within [] (suc i) half is = none_half is
half_within (x ∷ xs) zero half is = omega arith
half_within (x ∷ xs) (suc i) half is = let below = half_within xs i half is in omega (arith, below)

pub is_half : (halves : List (Option HeldControl)) (i : ℕ) → is_some (entry halves i) ≡ true → IsHalf halves i
is_half halves i is = by_entry (entry halves i) refl is
  where
    by_entry : (o : Option HeldControl) → entry halves i ≡ o → is_some o ≡ true → IsHalf halves i
    by_entry None same some = absurd (true≢false (sym some))
    by_entry (Some half) same some = record { half = half; here = same }

-- places
pub present_all : (halves : List (Option HeldControl)) (n : ℕ) → length halves ≤ n
    → present (take n halves) ≡ present halves
present_all [] zero past = refl
present_all [] (suc n) past = refl
present_all (x ∷ xs) zero past = absurd (omega (arith, past))
present_all (None ∷ xs) (suc n) past = present_all xs n (omega (arith, past))
present_all (Some half ∷ xs) (suc n) past = ap (λ held. half ∷ held) (present_all xs n (omega (arith, past)))

pub present_next : (halves : List (Option HeldControl)) (i : ℕ) (half : HeldControl) → entry halves i ≡ Some half
    → present (take (suc i) halves) ≡ present (take i halves) ++ half ∷ []
present_next [] zero half is = none_half is
present_next [] (suc i) half is = none_half is
present_next (None ∷ xs) zero half is = none_half is
present_next (Some own ∷ xs) zero half is = ap (λ h. h ∷ []) (same_half own half is)
present_next (None ∷ xs) (suc i) half is = present_next xs i half is
present_next (Some own ∷ xs) (suc i) half is = ap (λ held. own ∷ held) (present_next xs i half is)

pub present_still : (halves : List (Option HeldControl)) (i : ℕ) → entry halves i ≡ None
    → present (take (suc i) halves) ≡ present (take i halves)
present_still [] zero is = refl
present_still [] (suc i) is = refl
present_still (None ∷ xs) zero is = refl
present_still (Some own ∷ xs) zero is = none_half (sym is)
present_still (None ∷ xs) (suc i) is = present_still xs i is
present_still (Some own ∷ xs) (suc i) is = ap (λ held. own ∷ held) (present_still xs i is)

pub length_more : (xs : List HeldControl) (half : HeldControl) → length (xs ++ half ∷ []) ≡ suc (length xs)
length_more [] half = refl
length_more (x ∷ xs) half = ap suc (length_more xs half)

pub place_next : (halves : List (Option HeldControl)) (i : ℕ) (half : HeldControl) → entry halves i ≡ Some half
    → place_at halves (suc i) ≡ suc (place_at halves i)
place_next halves i half is =
    ap length (present_next halves i half is) ∙ length_more (present (take i halves)) half

pub place_still : (halves : List (Option HeldControl)) (i : ℕ) → entry halves i ≡ None
    → place_at halves (suc i) ≡ place_at halves i
place_still halves i is = ap length (present_still halves i is)

pub place_all : (halves : List (Option HeldControl)) (i : ℕ) → length halves ≤ i
    → place_at halves i ≡ length (present halves)
place_all halves i past = ap length (present_all halves i past)

pub place_few : (halves : List (Option HeldControl)) (i : ℕ) → place_at halves i ≤ length (present halves)
place_few [] zero = omega arith
place_few [] (suc i) = omega arith
place_few (None ∷ xs) zero = omega arith
place_few (Some own ∷ xs) zero = omega arith
place_few (None ∷ xs) (suc i) = place_few xs i
place_few (Some own ∷ xs) (suc i) = let few = place_few xs i in omega (arith, few)

pub place_below : (halves : List (Option HeldControl)) (i : ℕ) (half : HeldControl) → entry halves i ≡ Some half
    → place_at halves i < length (present halves)
place_below [] zero half is = none_half is
place_below [] (suc i) half is = none_half is
place_below (None ∷ xs) zero half is = none_half is
place_below (Some own ∷ xs) zero half is = omega arith
place_below (None ∷ xs) (suc i) half is = place_below xs i half is
place_below (Some own ∷ xs) (suc i) half is = let few = place_below xs i half is in omega (arith, few)

pub place_rises : (halves : List (Option HeldControl)) (i j : ℕ) → i ≤ j → place_at halves i ≤ place_at halves j
place_rises [] zero j less = omega arith
place_rises [] (suc i) zero less = omega arith
place_rises [] (suc i) (suc j) less = omega arith
place_rises (x ∷ xs) zero j less = omega arith
place_rises (x ∷ xs) (suc i) zero less = absurd (omega (arith, less))
place_rises (None ∷ xs) (suc i) (suc j) less = place_rises xs i j (omega (arith, less))
place_rises (Some own ∷ xs) (suc i) (suc j) less =
    let more = place_rises xs i j (omega (arith, less)) in omega (arith, more)

pub place_less : (halves : List (Option HeldControl)) (i j : ℕ) (half : HeldControl) → entry halves i ≡ Some half
    → i < j → place_at halves i < place_at halves j
place_less halves i j half is less =
    let next = place_next halves i half is in
    let more = place_rises halves (suc i) j (omega (arith, less)) in
    omega (arith, next, more)

pub held_there : (halves : List (Option HeldControl)) (i : ℕ) (half : HeldControl) → entry halves i ≡ Some half
    → held_at (present halves) (place_at halves i) ≡ half
held_there [] zero half is = none_half is
held_there [] (suc i) half is = none_half is
held_there (None ∷ xs) zero half is = none_half is
held_there (Some own ∷ xs) zero half is = same_half own half is
held_there (None ∷ xs) (suc i) half is = held_there xs i half is
held_there (Some own ∷ xs) (suc i) half is = held_there xs i half is

-- by the next index
pub next_on : (halves : List (Option HeldControl)) (i : ℕ) → is_some (entry halves i) ≡ true
    → place_at halves (i + 1) ≡ place_at halves i + 1
next_on halves i is =
    let half = is_half halves i is in
    ap (place_at halves) (add-one i) ∙ place_next halves i half.half half.here ∙ sym (add-one (place_at halves i))

pub still_on : (halves : List (Option HeldControl)) (i : ℕ) → entry halves i ≡ None
    → place_at halves (i + 1) ≡ place_at halves i
still_on halves i is = ap (place_at halves) (add-one i) ∙ place_still halves i is

-- where the cursor settles
pub settled_at : (halves : List (Option HeldControl)) (at from : ℕ) → is_some (entry halves at) ≡ true
    → place_at halves at ≡ place_at halves from
    → place_at halves at ≡ cursor_within (place_at halves from) (length (present halves))
settled_at halves at from is same =
    let half = is_half halves at is in
    let below = place_below halves at half.half half.here in
    same ∙ sym (ap (λ test. cond test (place_at halves from) 0)
    (lt-ltb (place_at halves from) (length (present halves)) (omega (arith, below, same))))

pub settled_behind : (halves : List (Option HeldControl)) (at place count : ℕ) → is_some (entry halves at) ≡ true
    → place ≡ place_at halves at → cursor_within (place_at halves (at + 1)) count ≡ cursor_next place count
settled_behind halves at place count is own =
    ap (λ n. cursor_within n count) (next_on halves at is ∙ ap (λ n. n + 1) (sym own))

-- one leaves
pub hole : (halves : List (Option HeldControl)) (i : ℕ) (half : HeldControl) → entry halves i ≡ Some half
    → present (set halves i None) ≡ without (place_at halves i) (present halves)
hole [] zero half is = none_half is
hole [] (suc i) half is = none_half is
hole (None ∷ xs) zero half is = none_half is
hole (Some own ∷ xs) zero half is = refl
hole (None ∷ xs) (suc i) half is = hole xs i half is
hole (Some own ∷ xs) (suc i) half is = ap (λ held. own ∷ held) (hole xs i half is)

pub one_less : (halves : List (Option HeldControl)) (i : ℕ) (half : HeldControl) → entry halves i ≡ Some half
    → suc (length (present (set halves i None))) ≡ length (present halves)
one_less [] zero half is = none_half is
one_less [] (suc i) half is = none_half is
one_less (None ∷ xs) zero half is = none_half is
one_less (Some own ∷ xs) zero half is = refl
one_less (None ∷ xs) (suc i) half is = one_less xs i half is
one_less (Some own ∷ xs) (suc i) half is = ap suc (one_less xs i half is)

place_before_hole : (halves : List (Option HeldControl)) (i n : ℕ) → n ≤ i
    → place_at (set halves i None) n ≡ place_at halves n
place_before_hole [] zero n less = refl
place_before_hole [] (suc i) n less = refl
place_before_hole (x ∷ xs) i zero less = refl
place_before_hole (x ∷ xs) zero (suc n) less = absurd (omega (arith, less))
place_before_hole (None ∷ xs) (suc i) (suc n) less = place_before_hole xs i n (omega (arith, less))
place_before_hole (Some own ∷ xs) (suc i) (suc n) less = ap suc (place_before_hole xs i n (omega (arith, less)))

place_behind_hole : (halves : List (Option HeldControl)) (i n : ℕ) (half : HeldControl) → entry halves i ≡ Some half
    → i < n → suc (place_at (set halves i None) n) ≡ place_at halves n
place_behind_hole [] zero n half is less = none_half is
place_behind_hole [] (suc i) n half is less = none_half is
place_behind_hole (x ∷ xs) i zero half is less = absurd (omega (arith, less))
place_behind_hole (None ∷ xs) zero (suc n) half is less = none_half is
place_behind_hole (Some own ∷ xs) zero (suc n) half is less = refl
place_behind_hole (None ∷ xs) (suc i) (suc n) half is less = place_behind_hole xs i n half is (omega (arith, less))
place_behind_hole (Some own ∷ xs) (suc i) (suc n) half is less =
    ap suc (place_behind_hole xs i n half is (omega (arith, less)))

-- the cursor behind a half leaving
pub cursor_left : (halves : List (Option HeldControl)) (i next : ℕ) (half : HeldControl) → entry halves i ≡ Some half
    → cursor_within (place_at (set halves i None) next) (length (present (set halves i None)))
    ≡ cursor_behind (place_at halves i) (place_at halves next)
    (length (without (place_at halves i) (present halves)))
cursor_left halves i next half is =
    ap (cursor_within (place_at (set halves i None) next)) (ap length (hole halves i half is))
    ∙ ap (λ n. cursor_within n (length (without (place_at halves i) (present halves)))) (elim (cases_lt i next) [
      | inl before ↦
          let less = place_less halves i next half is before in
          let one = place_behind_hole halves i next half is before in
          let same : place_at (set halves i None) next ≡ place_at halves next - 1 = omega (arith, one) in
          same ∙ sym (ap (λ test. cond test (place_at halves next - 1) (place_at halves next))
          (lt-ltb (place_at halves i) (place_at halves next) less))
      | inr behind ↦
          place_before_hole halves i next behind
          ∙ sym (ap (λ test. cond test (place_at halves next - 1) (place_at halves next))
          (le-ltb (place_at halves i) (place_at halves next) (place_rises halves next i behind)))
    ])

-- where none of a slot leaves
pub none_left : (held : List HeldControl) (n : ℕ) → length held ≤ n → without n held ≡ held
none_left [] n past = refl
none_left (x ∷ xs) zero past = absurd (omega (arith, past))
none_left (x ∷ xs) (suc n) past = ap (λ held. x ∷ held) (none_left xs n (omega (arith, past)))

pub cursor_stays : (held : List HeldControl) (place cursor : ℕ) → length held ≤ place → cursor ≤ length held
    → cursor_within cursor (length held) ≡ cursor_behind place cursor (length (without place held))
cursor_stays held place cursor past few =
    ap (cursor_within cursor) (sym (ap length (none_left held place past)))
    ∙ sym (ap (λ test. cursor_within (cond test (cursor - 1) cursor) (length (without place held)))
    (le-ltb place cursor (omega (arith, past, few))))

-- the first half that fails a test
pub first_at : (p : HeldControl → Bool) (halves : List (Option HeldControl)) (i : ℕ) (half : HeldControl)
    → entry halves i ≡ Some half → p half ≡ false
    → ((j : ℕ) → (other : HeldControl) → j < i → entry halves j ≡ Some other → p other ≡ true)
    → prefix_len p (present halves) ≡ place_at halves i
first_at p [] zero half is fails before = none_half is
first_at p [] (suc i) half is fails before = none_half is
first_at p (None ∷ xs) zero half is fails before = none_half is
first_at p (Some own ∷ xs) zero half is fails before =
    ap (λ test. cond test (1 + prefix_len p (present xs)) 0) (ap p (same_half own half is) ∙ fails)
first_at p (None ∷ xs) (suc i) half is fails before =
    first_at p xs i half is fails (λ j other less. before (suc j) other (omega (arith, less)))
first_at p (Some own ∷ xs) (suc i) half is fails before =
    let next : 1 + prefix_len p (present xs) ≡ suc (prefix_len p (present xs)) = omega arith in
    ap (λ test. cond test (1 + prefix_len p (present xs)) 0) (before 0 own (omega arith) refl)
    ∙ next
    ∙ ap suc (first_at p xs i half is fails (λ j other less. before (suc j) other (omega (arith, less))))

pub none_fails : (p : HeldControl → Bool) (halves : List (Option HeldControl))
    → ((j : ℕ) → (other : HeldControl) → entry halves j ≡ Some other → p other ≡ true)
    → prefix_len p (present halves) ≡ length (present halves)
none_fails p [] all = refl
none_fails p (None ∷ xs) all = none_fails p xs (λ j. all (suc j))
none_fails p (Some own ∷ xs) all =
    let next : 1 + prefix_len p (present xs) ≡ suc (prefix_len p (present xs)) = omega arith in
    ap (λ test. cond test (1 + prefix_len p (present xs)) 0) (all 0 own refl)
    ∙ next ∙ ap suc (none_fails p xs (λ j. all (suc j)))

pub stands_place : (halves : List (Option HeldControl)) (slot i : ℕ) → StandsAt halves slot i
    → place_held slot (present halves) ≡ place_at halves i
stands_place halves slot i stands =
    first_at (λ (half : HeldControl). not (half.slot == slot)) halves i stands.half stands.here
    (ap not (eq-eqb stands.half.slot slot stands.own))
    (λ j other less is. ap not (stands.before j other less is))

pub lacks_place : (halves : List (Option HeldControl)) (slot : ℕ) → Lacks halves slot
    → place_held slot (present halves) ≡ length (present halves)
lacks_place halves slot lacks =
    none_fails (λ (half : HeldControl). not (half.slot == slot)) halves (λ j other is. ap not (lacks j other is))

pub stands_some : (halves : List (Option HeldControl)) (slot i : ℕ) → StandsAt halves slot i
    → is_some (entry halves i) ≡ true
stands_some halves slot i stands = ap is_some stands.here

pub held_some : (halves : List (Option HeldControl)) (i : ℕ) (half : HeldControl) → entry halves i ≡ Some half
    → half.slot ≡ (held_at (present halves) (place_at halves i)).slot
held_some halves i half is = sym (ap (λ (h : HeldControl). h.slot) (held_there halves i half is))

pub held_none : (held : List HeldControl) (place : ℕ) → length held ≤ place → (held_at held place).slot ≡ 0
held_none [] zero past = refl
held_none [] (suc n) past = refl
held_none (x ∷ xs) zero past = absurd (omega (arith, past))
held_none (x ∷ xs) (suc n) past = held_none xs n (omega (arith, past))

pub none_next : (place count : ℕ) → count ≤ place → 0 ≡ cursor_next place count
none_next place count past = sym (ap (λ test. cond test (place + 1) 0) (le-ltb (place + 1) count (omega (arith, past))))

pub none_of : {X : Type 0} (o : Option X) → ((x : X) → o ≡ Some x → ⊥) → o ≡ None
none_of None off = refl
none_of (Some x) off = absurd (off x refl)
