-- The first element that passes a test, by its place.
use Rattle.std.proofs.Common.{◌≡◌, ℕ, suc, ◌+◌, Bool, true, false, not, cond, if◌then◌else◌, nat_lt, List, [], ◌∷◌, length, get_or, set, Option, Some, None, refl, sym, ap, ◌∙◌, arith}
use Rattle.std.specs.List.{position, position_or_len, remove}
use Rattle.std.specs.Option.{option_map}
use Rattle.std.proofs.lemmas.Bool.Decides.{nat_tests}
use Rattle.bearer_state.specs.Changes.{with_first, without_first}

-- the place, by recursion
abbrev first_place : {X : Type 0} → (X → Bool) → List X → Option ℕ
first_place test [] = None
first_place test (x ∷ xs) = cond (test x) (Some 0) (option_map suc (first_place test xs))

first_below : (len : ℕ) → nat_lt 0 (suc len) ≡ true
first_below len = grind (arith, nat_tests)

below_suc : (before len : ℕ) → nat_lt (1 + before) (suc len) ≡ nat_lt before len
below_suc before len = grind (arith, nat_tests)

mapped_choice : (there : Bool) (n : ℕ) → cond there (Some (1 + n)) None ≡ option_map suc (cond there (Some n) None)
mapped_choice true n = let one_more : 1 + n ≡ suc n = omega arith in ap (λ m. Some m) one_more
mapped_choice false n = refl

place_cons : (passes : Bool) (before len : ℕ) → cond (nat_lt (cond (not passes) (1 + before) 0) (suc len))
    (Some (cond (not passes) (1 + before) 0)) None
    ≡ cond passes (Some 0) (option_map suc (cond (nat_lt before len) (Some before) None))
place_cons true before len = rw (first_below len) refl
place_cons false before len = rw (below_suc before len) (mapped_choice (nat_lt before len) before)

position_is : {X : Type 0} (test : X → Bool) (xs : List X) → position test xs ≡ first_place test xs
position_is test [] = refl
position_is test (x ∷ xs) =
    place_cons (test x) (position_or_len test xs) (length xs)
    ∙ ap (λ rest. cond (test x) (Some 0) (option_map suc rest)) (position_is test xs)

changed_cons : {X : Type 0} (passes : Bool) (f : X → X) (x : X) (xs ys : List X) (rest : Option ℕ) (at : ℕ) (d : X)
    → ((j : ℕ) → rest ≡ Some j → set xs j (f (get_or xs j d)) ≡ ys)
    → cond passes (Some 0) (option_map suc rest) ≡ Some at
    → set (x ∷ xs) at (f (get_or (x ∷ xs) at d)) ≡ (if passes then f x ∷ xs else x ∷ ys)
changed_cons true f x xs ys rest at d tail is = let first : at ≡ 0 = cc in rw first refl
changed_cons false f x xs ys None at d tail is = cc
changed_cons false f x xs ys (Some j) at d tail is =
    let later : at ≡ suc j = cc in rw later (ap (λ zs. x ∷ zs) (tail j refl))

changed_at : {X : Type 0} (test : X → Bool) (f : X → X) (xs : List X) (at : ℕ) (d : X) → first_place test xs ≡ Some at
    → set xs at (f (get_or xs at d)) ≡ with_first test f xs
changed_at test f [] at d is = cc
changed_at test f (x ∷ xs) at d is =
    changed_cons (test x) f x xs (with_first test f xs) (first_place test xs) at d
    (λ j found. changed_at test f xs j d found) is

-- a list with the first element changed, where its place is known
with_first-at : {X : Type 0} (test : X → Bool) (f : X → X) (xs : List X) (at : ℕ) (d : X) → position test xs ≡ Some at
    → set xs at (f (get_or xs at d)) ≡ with_first test f xs
with_first-at test f xs at d is = changed_at test f xs at d (sym (position_is test xs) ∙ is)

pub with_first-set : {X : Type 0} (test : X → Bool) (f : X → X) (xs : List X) (at : ℕ) (x : X) → x ≡ get_or xs at x
    → position test xs ≡ Some at
    → set xs at (f x) ≡ with_first test f xs
with_first-set test f xs at x read is = ap (λ y. set xs at (f y)) read ∙ with_first-at test f xs at x is

removed_cons : {X : Type 0} (passes : Bool) (x : X) (xs ys : List X) (rest : Option ℕ) (at : ℕ)
    → ((j : ℕ) → rest ≡ Some j → remove xs j ≡ ys) → cond passes (Some 0) (option_map suc rest) ≡ Some at
    → remove (x ∷ xs) at ≡ (if passes then xs else x ∷ ys)
removed_cons true x xs ys rest at tail is = let first : at ≡ 0 = cc in rw first refl
removed_cons false x xs ys None at tail is = cc
removed_cons false x xs ys (Some j) at tail is =
    let later : at ≡ suc j = cc in rw later (ap (λ zs. x ∷ zs) (tail j refl))

removed_at : {X : Type 0} (test : X → Bool) (xs : List X) (at : ℕ) → first_place test xs ≡ Some at
    → remove xs at ≡ without_first test xs
removed_at test [] at is = cc
removed_at test (x ∷ xs) at is =
    removed_cons (test x) x xs (without_first test xs) (first_place test xs) at
    (λ j found. removed_at test xs j found) is

-- and with it gone
pub without_first-at : {X : Type 0} (test : X → Bool) (xs : List X) (at : ℕ) → position test xs ≡ Some at
    → remove xs at ≡ without_first test xs
without_first-at test xs at is = removed_at test xs at (sym (position_is test xs) ∙ is)

same_cons : {X : Type 0} (passes : Bool) (z : List X) (x : X) (xs ys : List X) (rest : Option ℕ)
    → (rest ≡ None → ys ≡ xs)
    → cond passes (Some 0) (option_map suc rest) ≡ None → (if passes then z else x ∷ ys) ≡ x ∷ xs
same_cons true z x xs ys rest tail is = cc
same_cons false z x xs ys None tail is = ap (λ zs. x ∷ zs) (tail refl)
same_cons false z x xs ys (Some j) tail is = cc

unchanged : {X : Type 0} (test : X → Bool) (f : X → X) (xs : List X) → first_place test xs ≡ None
    → with_first test f xs ≡ xs
unchanged test f [] is = refl
unchanged test f (x ∷ xs) is =
    same_cons (test x) (f x ∷ xs) x xs (with_first test f xs) (first_place test xs)
    (λ none. unchanged test f xs none) is

none_removed : {X : Type 0} (test : X → Bool) (xs : List X) → first_place test xs ≡ None → without_first test xs ≡ xs
none_removed test [] is = refl
none_removed test (x ∷ xs) is =
    same_cons (test x) xs x xs (without_first test xs) (first_place test xs) (λ none. none_removed test xs none) is

-- without such an element the list stays
pub with_first-none : {X : Type 0} (test : X → Bool) (f : X → X) (xs : List X) → position test xs ≡ None
    → with_first test f xs ≡ xs
with_first-none test f xs is = unchanged test f xs (sym (position_is test xs) ∙ is)

pub without_first-none : {X : Type 0} (test : X → Bool) (xs : List X) → position test xs ≡ None
    → without_first test xs ≡ xs
without_first-none test xs is = none_removed test xs (sym (position_is test xs) ∙ is)

pub none_from_not : (place : Option ℕ) → ((at : ℕ) → place ≡ Some at → ⊥) → place ≡ None
none_from_not None none = refl
none_from_not (Some at) none = absurd (none at refl)
