-- Whether an item is among others, and among those of its slot.
use Rattle.std.proofs.Common.{◌≡◌, ℕ, zero, suc, ◌+◌, ◌==◌, ◌<◌, ◌≤◌, Bool, true, false, List, [], ◌∷◌, ◌++◌, length, map, take, get_or, cond, refl, sym, ap, subst, ◌∙◌, inl, inr, arith}
use Rattle.std.specs.Borrow.{Bor}
use Rattle.std.specs.List.{All, Contains, filter}
use Rattle.std.proofs.lemmas.Bool.{eq-eqb}
use Rattle.std.proofs.lemmas.List.{get_or-map, length-map, map-append, take_all, take_more}
use Rattle.std.proofs.lemmas.List.Elements.{All-cons, All-contains, All-contains_itself, All-filter, All-nil, All-weaker, Contains-append_right, Contains-get_or, Contains-push_cases}
use Rattle.lawful_run.specs.Telling.{counted}
use Rattle.audit_core.specs.declared.sharing.Keyed.{Keyed}
use Rattle.audit_core.specs.Sharing.{put_in, shares, under}
use Rattle.audit_core.proofs.SharingLemmas.{one_more}
use Rattle.audit_core.specs.Agreeing.{each_slot, lent, of_slot}

pub among_here : {X : Type 0} (some : List (Bor X)) (i : ℕ) (one : Bor X) (x : X) → i < length some
    → one ≡ get_or some i one → one.now ≡ x → Contains (lent some) x
among_here some i one x within is same =
    subst (Contains (lent some))
    (get_or-map (λ (b : Bor _). b.now) some i one one.now within ∙ ap (λ (b : Bor _). b.now) (sym is) ∙ same)
    (Contains-get_or (lent some) i one.now (simp length-map within))

pub among_more : {X : Type 0} (some : List (Bor X)) (i : ℕ) (one : Bor X) (x : X) → i < length some
    → one ≡ get_or some i one → (Contains (lent (take i some)) x → ⊥) → (one.now ≡ x → ⊥)
    → Contains (lent (take (i + 1) some)) x → ⊥
among_more some i one x within is none differ there =
    let parts : lent (take (i + 1) some) ≡ lent (take i some) ++ one.now ∷ [] =
    ap lent (take_more some i one within) ∙ map-append (λ (b : Bor _). b.now) (take i some) (get_or some i one ∷ [])
    ∙ ap (λ (b : Bor _). lent (take i some) ++ b.now ∷ []) (sym is) in
    elim (Contains-push_cases (lent (take i some)) one.now x (subst (λ xs. Contains xs x) parts there)) [
      | inl before ↦ none before
      | inr here ↦ differ here
    ]

pub among_all : {X : Type 0} (some : List (Bor X)) (i : ℕ) (x : X) → length some ≤ i
    → (Contains (lent (take i some)) x → ⊥) → Contains (lent some) x → ⊥
among_all some i x past none there = none (subst (λ xs. Contains (lent xs) x) (sym (take_all i some past)) there)

-- among those that pass a test
more_pass : {X : Type 0} (test : Bool) (x y : X) (xs : List X) → Contains xs y → Contains (cond test (x ∷ xs) xs) y
more_pass true x y xs there = Contains-append_right (x ∷ []) xs y there
more_pass false x y xs there = there

first_passes : {X : Type 0} (test : Bool) (x : X) (xs : List X) → test ≡ true → Contains (cond test (x ∷ xs) xs) x
first_passes true x xs passes = Contains-get_or (x ∷ xs) 0 x (omega arith)
first_passes false x xs passes = cc

each_passes : {X : Type 0} (p : X → Bool) (xs : List X) → All (λ y. p y ≡ true → Contains (filter p xs) y) xs
each_passes p [] = All-nil (λ y. p y ≡ true → Contains (filter p []) y)
each_passes p (x ∷ xs) =
    All-cons (λ y. p y ≡ true → Contains (filter p (x ∷ xs)) y) x xs
    (λ passes. first_passes (p x) x (filter p xs) passes)
    (All-weaker (λ y. p y ≡ true → Contains (filter p xs) y) (λ y. p y ≡ true → Contains (filter p (x ∷ xs)) y)
    (λ y holds passes. more_pass (p x) x y (filter p xs) (holds passes)) xs (each_passes p xs))

module _ {X : Type 0} (whose : X → ℕ) (told : List X) (x : X) where
  pub of_its_slot : Contains told x → Contains (of_slot whose (whose x) told) x
  of_its_slot there =
      All-contains (λ y. (whose y == whose x) ≡ true → Contains (of_slot whose (whose x) told) y) told x
      (each_passes (λ y. whose y == whose x) told) there (eq-eqb (whose x) (whose x) refl)

  pub of_all : (s : ℕ) → Contains (of_slot whose s told) x → Contains told x
  of_all s there =
      All-contains (Contains told) (of_slot whose s told) x
      (All-filter (λ y. whose y == s) (Contains told) told (All-contains_itself told)) there

-- shares by number
counted_length : {X : Type 0} (f : ℕ → X) (first n : ℕ) → length (map f (counted first n)) ≡ n
counted_length f first zero = refl
counted_length f first (suc n) = ap suc (counted_length f (first + 1) n)

pub nth_count : {V T : Type 0} (items : V → List T) (vs : List V) (f : ℕ → List T) (slots : ℕ)
    → map items vs ≡ map f (counted 0 slots) → length vs ≡ slots
nth_count items vs f slots are = sym (length-map vs items) ∙ ap length are ∙ counted_length f 0 slots

pub share_count : {V T : Type 0} (items : V → List T) (vs : List V) (slots : ℕ) (keyed : List (Keyed T))
    → map items vs ≡ shares slots keyed → length vs ≡ slots
share_count items vs slots keyed are = nth_count items vs (λ k. under k keyed) slots are

counted_at : {X : Type 0} (f : ℕ → X) (first n i : ℕ) (d : X) → i < n
    → get_or (map f (counted first n)) i d ≡ f (first + i)
counted_at f first zero i d low = absurd (omega (arith, low))
counted_at f first (suc n) zero d low = ap f (omega arith)
counted_at f first (suc n) (suc i) d low = counted_at f (first + 1) n i d (omega (arith, low)) ∙ ap f (omega arith)

from_none : (i : ℕ) → 0 + i ≡ i
from_none i = omega arith

pub nth_is : {V T : Type 0} (items : V → List T) (vs : List V) (f : ℕ → List T) (slots i : ℕ) (v : V)
    → map items vs ≡ map f (counted 0 slots) → i < slots → v ≡ get_or vs i v → items v ≡ f i
nth_is items vs f slots i v are low is =
    ap items is
    ∙ sym (get_or-map items vs i v [] (omega (arith, low, nth_count items vs f slots are)))
    ∙ ap (λ some. get_or some i []) are
    ∙ counted_at f 0 slots i [] low
    ∙ ap f (from_none i)

pub share_is : {V T : Type 0} (items : V → List T) (vs : List V) (slots : ℕ) (keyed : List (Keyed T)) (i : ℕ) (v : V)
    → map items vs ≡ shares slots keyed → i < slots → v ≡ get_or vs i v → items v ≡ under i keyed
share_is items vs slots keyed i v are low is = nth_is items vs (λ k. under k keyed) slots i v are low is

-- items under their own keys
abbrev pub keyed_by : {X : Type 0} → (X → ℕ) → X → Keyed X
keyed_by whose x = record { key = whose x; item = x }

one_under : {X : Type 0} (test : Bool) (one : Keyed X) (some : List (Keyed X))
    → map (λ (o : Keyed X). o.item) (cond test (one ∷ some) some)
    ≡ cond test (one.item ∷ map (λ (o : Keyed X). o.item) some) (map (λ (o : Keyed X). o.item) some)
one_under true one some = refl
one_under false one some = refl

module _ {X : Type 0} (whose : X → ℕ) where
  under_own : (k : ℕ) (xs : List X) → under k (map (keyed_by whose) xs) ≡ of_slot whose k xs
  under_own k [] = refl
  under_own k (x ∷ xs) =
      one_under (whose x == k) (keyed_by whose x)
      (filter (λ (o : Keyed X). o.key == k) (map (keyed_by whose) xs))
      ∙ ap (λ rest. cond (whose x == k) (x ∷ rest) rest) (under_own k xs)

  pub shares_own : (slots : ℕ) (xs : List X) → shares slots (map (keyed_by whose) xs) ≡ each_slot whose slots xs
  shares_own slots xs = ap (λ (f : ℕ → List X). map f (counted 0 slots)) (λ i k. under_own k xs i)

  pub each_more : (slots : ℕ) (xs : List X) (x : X)
      → put_in (each_slot whose slots xs) (whose x) x ≡ each_slot whose slots (xs ++ x ∷ [])
  each_more slots xs x =
      ap (λ (lists : List (List X)). put_in lists (whose x) x) (sym (shares_own slots xs))
      ∙ sym (one_more (map (keyed_by whose) xs) (keyed_by whose x) slots)
      ∙ ap (shares slots) (sym (map-append (keyed_by whose) xs (x ∷ [])))
      ∙ shares_own slots (xs ++ x ∷ [])
