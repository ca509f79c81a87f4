-- What is noted of halves that are to leave stood in orders that were taken.
use Rattle.std.proofs.Common.{◌≡◌, ◌≢◌, ℕ, ◌<◌, ◌≤◌, Bool, true, false, true≢false, cond, List, [], ◌∷◌}
use Rattle.std.proofs.Common.{◌++◌, length, get_or, Option, Some, None, refl, sym, ap, ◌∙◌, subst, arith}
use Rattle.std.specs.Prelude.{◌&&◌, ◌||◌, not, nat_le, nat_eq}
use Rattle.std.specs.List.{All, list_any, position, filter}
use Rattle.worker_core.specs.Workers.{GoesHome}
use Rattle.std.proofs.lemmas.List.Quantifiers.{position-Some}
use Rattle.std.proofs.lemmas.List.Sums.{sum_by-append, sum_by_push}
use Rattle.std.proofs.lemmas.List.Elements.{All-weaker, All-nil, All-cons, All-head, All-tail}
use Rattle.std.proofs.lemmas.List.Folds.{Any-from_list_any}
use Rattle.std.proofs.lemmas.Bool.{eq-eqb, ne_eqb, or_from}
use borrow.Author.Tests.{eqb-true, leb-true}
use Rattle.worker_core.specs.declared.order.Order.{Order}
use Rattle.worker_core.specs.declared.order.Order.TheVariants.{Leave}
use Rattle.worker_core.specs.declared.worker.Leaving.{Leaving}
use Rattle.worker_core.specs.Leaves.{is_leave, IsOrdered, IsTold, is_met, is_due, is_held, IsNoted, SameElsewhere}

module _ {H : Type 0} where
  pub ordered_more : (came : List (Order H)) (order : Order H) (slot until : ℕ) → IsOrdered came slot until
      → IsOrdered (came ++ order ∷ []) slot until
  ordered_more came order slot until is =
      let f : Order H → ℕ = λ x. cond (is_leave slot until x) 1 0 in
      let e = sum_by-append f came (order ∷ []) in omega arith

  pub told_more : (came : List (Order H)) (order : Order H) (leaving : List Leaving) → All (IsTold came) leaving
      → All (IsTold (came ++ order ∷ [])) leaving
  told_more came order leaving told =
      All-weaker (IsTold came) (IsTold (came ++ order ∷ []))
      (λ x is. ordered_more came order x.slot x.until is) leaving told

same_leave : (H : Type 0) (slot until : ℕ) → is_leave {H = H} slot until (Leave slot until) ≡ true
same_leave H slot until = ap (λ b. b && nat_eq until until) (eq-eqb slot slot refl) ∙ eq-eqb until until refl

-- an order that was taken last
pub ordered_last : {H : Type 0} (came : List (Order H)) (slot until : ℕ)
    → IsOrdered (came ++ Leave slot until ∷ []) slot until
ordered_last {H} came slot until =
    let f : Order H → ℕ = λ x. cond (is_leave slot until x) 1 0 in
    let e = sum_by_push f came (Leave slot until) in
    let one : f (Leave slot until) ≡ 1 = ap (λ b. cond b 1 0) (same_leave H slot until) in omega arith

both_true : (a b : Bool) → (a && b) ≡ true → (a ≡ true) × (b ≡ true)
both_true true true e = (refl, refl)
both_true true false e = absurd (let no : ⊥ = cc in no)
both_true false b e = absurd (let no : ⊥ = cc in no)

module _ {H : Type 0} where
  -- a half that is due was told so
  pub told_due : (came : List (Order H)) (leaving : List Leaving) (slot done : ℕ) → All (IsTold came) leaving
      → is_due leaving slot done ≡ true → (until : ℕ) × IsOrdered came slot until × (until ≤ done)
  told_due came leaving slot done told due =
      let found = Any-from_list_any (is_met slot done) leaving due in
      let x : Leaving = found.1 in
      let met = both_true (nat_eq x.slot slot) (nat_le x.until done) found.4 in
      let here : IsTold came x = subst (IsTold came) found.3 (told found.0 x found.2) in (
        x.until,
        subst (λ (n : ℕ). IsOrdered came n x.until) (eqb-true x.slot slot met.0) here,
        leb-true x.until done met.1,
      )

or_true : (a : Bool) → (a || true) ≡ true
or_true true = refl
or_true false = refl

or_false : (a : Bool) → a ≡ (a || false)
or_false true = refl
or_false false = refl

or_assoc : (a b c : Bool) → ((a || b) || c) ≡ (a || (b || c))
or_assoc true b c = refl
or_assoc false b c = refl

not_false_true : (a : Bool) → not a ≡ false → a ≡ true
not_false_true true e = refl
not_false_true false e = absurd (true≢false e)

other_fails_at : (slot other done : ℕ) (x : Leaving) → other ≢ slot → nat_eq x.slot slot ≡ true
    → is_met other done x ≡ false
other_fails_at slot other done x apart is =
    ap (λ b. b && nat_le x.until done) (ne_eqb x.slot other (λ e. apart (sym e ∙ eqb-true x.slot slot is)))

-- what holds of a whole list holds of some of it
pub picked_all : {X : Type 0} (P : X → Type 0) (test : X → Bool) (xs : List X) → All P xs → All P (filter test xs)
picked_all P test [] all = All-nil P
picked_all P test (x ∷ xs) all =
    elim (test x) as (λ b. test x ≡ b → All P (cond b (x ∷ filter test xs) (filter test xs))) [
      | true ↦ λ e. All-cons P x (filter test xs) (All-head P x xs all) (picked_all P test xs (All-tail P x xs all))
      | false ↦ λ e. picked_all P test xs (All-tail P x xs all)
    ] refl

-- a test of a list with one more
pub any_push : {X : Type 0} (p : X → Bool) (xs : List X) (y : X) → list_any p (xs ++ y ∷ []) ≡ (list_any p xs || p y)
any_push p [] y = sym (or_false (p y))
any_push p (x ∷ xs) y = ap (λ b. p x || b) (any_push p xs y) ∙ sym (or_assoc (p x) (list_any p xs) (p y))

-- what a filter drops fails a test
any_filter : {X : Type 0} (p test : X → Bool) (xs : List X) → ((x : X) → test x ≡ false → p x ≡ false)
    → list_any p (filter test xs) ≡ list_any p xs
any_filter p test [] drops = refl
any_filter p test (x ∷ xs) drops = elim (test x) as (λ b. test x ≡ b
    → list_any p (cond b (x ∷ filter test xs) (filter test xs)) ≡ (p x || list_any p xs)) [
      | true ↦ λ e. ap (λ b. p x || b) (any_filter p test xs drops)
      | false ↦ λ e. any_filter p test xs drops ∙ sym (ap (λ b. b || list_any p xs) (drops x e))
    ] refl

-- the notes of one slot go
pub forgotten : (slot : ℕ) (leaving : List Leaving) → SameElsewhere slot leaving
    (filter (λ x. not (nat_eq x.slot slot)) leaving)
forgotten slot leaving other done apart =
    any_filter (is_met other done) (λ (x : Leaving). not (nat_eq x.slot slot)) leaving
    (λ x dropped. other_fails_at slot other done x apart (not_false_true (nat_eq x.slot slot) dropped))

other_fails : (slot until other done : ℕ) → other ≢ slot
    → is_met other done (record { slot = slot; until = until }) ≡ false
other_fails slot until other done apart = ap (λ b. b && nat_le until done) (ne_eqb slot other (λ e. apart (sym e)))

-- none is left of what is dropped
none_left : (slot done : ℕ) (leaving : List Leaving)
    → list_any (is_met slot done) (filter (λ x. not (nat_eq x.slot slot)) leaving) ≡ false
none_left slot done [] = refl
none_left slot done (x ∷ xs) = elim (nat_eq x.slot slot) as (λ b. nat_eq x.slot slot ≡ b
    → list_any (is_met slot done) (cond (not b) (x ∷ filter (λ y. not (nat_eq y.slot slot)) xs)
    (filter (λ y. not (nat_eq y.slot slot)) xs)) ≡ false) [
      | true ↦ λ e. none_left slot done xs
      | false ↦ λ e. or_from (is_met slot done x) (list_any (is_met slot done) (filter (λ y. not (nat_eq y.slot slot)) xs))
          (ap (λ b. b && nat_le x.until done) e) (none_left slot done xs)
    ] refl

own_met : (slot until done : ℕ) → is_met slot done (record { slot = slot; until = until }) ≡ nat_le until done
own_met slot until done = ap (λ b. b && nat_le until done) (eq-eqb slot slot refl)

module _ {H : Type 0} (slot_at : H → ℕ) (held : List H) (slot until : ℕ) where
  abbrev pub note : Leaving
  note = record { slot = slot; until = until }

  -- the half of the slot isn't held
  pub noted_none : (leaving : List Leaving) → is_held slot_at slot held ≡ false
      → IsNoted slot_at held (Leave slot until) leaving leaving
  noted_none leaving none = record {
    due = λ some. absurd (true≢false (sym some ∙ none));
    elsewhere = λ other done apart. refl;
    none = λ _. refl;
  }

  -- what was noted of it before is dropped
  pub noted_last : (leaving dropped new : List Leaving) → is_held slot_at slot held ≡ true
      → dropped ≡ filter (λ x. not (nat_eq x.slot slot)) leaving → new ≡ dropped ++ note ∷ []
      → IsNoted slot_at held (Leave slot until) leaving new
  noted_last leaving dropped new here dropped_is new_is =
      let kept : List Leaving = filter (λ x. not (nat_eq x.slot slot)) leaving in
      let all : new ≡ kept ++ note ∷ [] = new_is ∙ ap (λ l. l ++ note ∷ []) dropped_is in
      record {
        due = λ _ done. ap (list_any (is_met slot done)) all
            ∙ any_push (is_met slot done) kept note
            ∙ ap (λ b. b || is_met slot done note) (none_left slot done leaving)
            ∙ own_met slot until done;
        elsewhere = λ other done apart. ap (list_any (is_met other done)) all
            ∙ any_push (is_met other done) kept note
            ∙ ap (λ b. list_any (is_met other done) kept || b) (other_fails slot until other done apart)
            ∙ sym (or_false (list_any (is_met other done) kept))
            ∙ forgotten slot leaving other done apart;
        none = λ none. absurd (true≢false (sym here ∙ none));
      }

module _ {H N : Type 0} (name : H → N) (slot_of : N → ℕ) (done : H → ℕ) where
  abbrev pub due_at : List H → List Leaving → Option ℕ
  due_at held leaving = position (λ half. is_due leaving (slot_of (name half)) (done half)) held

  pub none_here : (held seen : List H) (leaving looked : List Leaving) → seen ≡ held → looked ≡ leaving
      → None ≡ due_at seen looked → None ≡ due_at held leaving
  none_here held seen leaving looked same alike none =
      subst (λ (p : List H × List Leaving). None ≡ due_at p.0 p.1) (λ i. (same i, alike i)) none

  -- the half that is found due
  pub due_here : (held seen : List H) (leaving looked : List Leaving) (at : ℕ) → seen ≡ held → looked ≡ leaving
      → Some at ≡ due_at seen looked → due_at held leaving ≡ Some at
  due_here held seen leaving looked at same alike found =
      sym (subst (λ (p : List H × List Leaving). Some at ≡ due_at p.0 p.1) (λ i. (same i, alike i)) found)

  pub due_within : (held : List H) (leaving : List Leaving) (at : ℕ) (half : H) → due_at held leaving ≡ Some at
      → at < length held
  due_within held leaving at half found =
      (position-Some (λ half. is_due leaving (slot_of (name half)) (done half)) held at half found).0

  -- it goes home
  pub goes_home : (came : List (Order H)) (held : List H) (leaving : List Leaving) (at : ℕ) (half : H)
      (old new : List H)
      → due_at held leaving ≡ Some at → half ≡ get_or held at half → All (IsTold came) leaving → new ≡ old ++ half ∷ []
      → GoesHome name slot_of done came old new
  goes_home came held leaving at half old new found is told more =
      let due = (position-Some (λ half. is_due leaving (slot_of (name half)) (done half)) held at half found).1 in
      let here : is_due leaving (slot_of (name half)) (done half) ≡ true =
      ap (λ x. is_due leaving (slot_of (name x)) (done x)) is ∙ due in
      let why = told_due came leaving (slot_of (name half)) (done half) told here in
      record { half = half; until = why.0; sent_last = more; ordered = why.1; reached = why.2 }
