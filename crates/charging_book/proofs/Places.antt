-- Lists of lives that are distinct, and what a function gives for each of them.
use Rattle.std.proofs.Common.{◌≡◌, ◌≢◌, ℕ, zero, suc, ◌<◌, ◌==◌, Bool, true, false, not, cond, List, [], ◌∷◌, ◌++◌, length, map, filter, All, get_or, set, sym, ◌∙◌, ap, refl, subst, arith, eq-eqb}
use Rattle.std.specs.List.{remove}
use Rattle.std.proofs.lemmas.Bool.{ne_eqb}
use Rattle.charging_book.specs.Accounts.{IsNone, AreDistinct}

pub none_of_all : (x : ℕ) (xs : List ℕ) → All (λ y. y ≢ x) xs → IsNone x xs
none_of_all x [] all = tt
none_of_all x (y ∷ ys) all = (all 0 0 (omega arith), none_of_all x ys (λ k d within. all (suc k) d (omega arith)))

none-append : (x y : ℕ) (xs : List ℕ) → IsNone x xs → y ≢ x → IsNone x (xs ++ y ∷ [])
none-append x y [] none other = (other, tt)
none-append x y (z ∷ zs) none other = (none.0, none-append x y zs none.1 other)

pub distinct-push : (xs : List ℕ) (y : ℕ) → AreDistinct xs → IsNone y xs → AreDistinct (xs ++ y ∷ [])
distinct-push [] y distinct none = (tt, tt)
distinct-push (x ∷ xs) y distinct none =
    (none-append x y xs distinct.0 (λ is. none.0 (sym is)), distinct-push xs y distinct.1 none.1)

none-filter : (p : ℕ → Bool) (x : ℕ) (xs : List ℕ) → IsNone x xs → IsNone x (filter p xs)
none-filter p x [] none = tt
none-filter p x (y ∷ ys) none =
    elim (p y) as (λ b. IsNone x (cond b (y ∷ filter p ys) (filter p ys))) [
      | true ↦ (none.0, none-filter p x ys none.1)
      | false ↦ none-filter p x ys none.1
    ]

pub distinct-filter : (p : ℕ → Bool) (xs : List ℕ) → AreDistinct xs → AreDistinct (filter p xs)
distinct-filter p [] distinct = tt
distinct-filter p (x ∷ xs) distinct =
    elim (p x) as (λ b. AreDistinct (cond b (x ∷ filter p xs) (filter p xs))) [
      | true ↦ (none-filter p x xs distinct.0, distinct-filter p xs distinct.1)
      | false ↦ distinct-filter p xs distinct.1
    ]

pub none-at : (x : ℕ) (xs : List ℕ) (place : ℕ) → IsNone x xs → place < length xs → get_or xs place 0 ≢ x
none-at x [] place none within = absurd (omega arith)
none-at x (y ∷ ys) zero none within = none.0
none-at x (y ∷ ys) (suc place) none within = none-at x ys place none.1 (omega arith)

-- two functions that differ at x alone
pub map-others : {X : Type 0} (f g : ℕ → X) (x : ℕ) (xs : List ℕ) → IsNone x xs → ((y : ℕ) → y ≢ x → g y ≡ f y)
    → map g xs ≡ map f xs
map-others f g x [] none same = refl
map-others f g x (y ∷ ys) none same = let head = same y none.0 in let rest = map-others f g x ys none.1 same in cc

pub map-at : {X : Type 0} (f g : ℕ → X) (x : ℕ) (xs : List ℕ) (place : ℕ) → AreDistinct xs → place < length xs
    → get_or xs place 0 ≡ x
    → ((y : ℕ) → y ≢ x → g y ≡ f y) → map g xs ≡ set (map f xs) place (g x)
map-at f g x [] place distinct within is same = absurd (omega arith)
map-at f g x (y ∷ ys) zero distinct within is same =
    let none : IsNone x ys = subst (λ z. IsNone z ys) is distinct.0 in
    let rest = map-others f g x ys none same in
    let head : g y ≡ g x = ap g is in cc
map-at f g x (y ∷ ys) (suc place) distinct within is same =
    let other : y ≢ x = λ equal. none-at y ys place distinct.0 (omega arith) (is ∙ sym equal) in
    let head = same y other in
    let rest = map-at f g x ys place distinct.1 (omega arith) is same in cc

-- the list without x
abbrev pub without : ℕ → List ℕ → List ℕ
without x xs = filter (λ y. not (y == x)) xs

pub without-other : (x y : ℕ) (ys : List ℕ) → y ≢ x → without x (y ∷ ys) ≡ y ∷ without x ys
without-other x y ys differs = rw (ne_eqb y x differs)

pub without-same : (x y : ℕ) (ys : List ℕ) → y ≡ x → without x (y ∷ ys) ≡ without x ys
without-same x y ys is = rw (eq-eqb y x is)

without-none : (x : ℕ) (xs : List ℕ) → IsNone x xs → without x xs ≡ xs
without-none x [] none = refl
without-none x (y ∷ ys) none = without-other x y ys none.0 ∙ ap (λ zs. y ∷ zs) (without-none x ys none.1)

pub map-without : {X : Type 0} (f g : ℕ → X) (x : ℕ) (xs : List ℕ) (place : ℕ) → AreDistinct xs → place < length xs
    → get_or xs place 0 ≡ x
    → ((y : ℕ) → y ≢ x → g y ≡ f y) → map g (without x xs) ≡ remove (map f xs) place
map-without f g x [] place distinct within is same = absurd (omega arith)
map-without f g x (y ∷ ys) zero distinct within is same =
    let none : IsNone x ys = subst (λ z. IsNone z ys) is distinct.0 in
    ap (map g) (without-same x y ys is ∙ without-none x ys none) ∙ map-others f g x ys none same
map-without f g x (y ∷ ys) (suc place) distinct within is same =
    let other : y ≢ x = λ equal. none-at y ys place distinct.0 (omega arith) (is ∙ sym equal) in
    let head = same y other in
    let rest = map-without f g x ys place distinct.1 (omega arith) is same in
    ap (map g) (without-other x y ys other) ∙ (cc)
