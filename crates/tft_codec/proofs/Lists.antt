-- Lists, tests of their elements, and numbers that differ.
use Rattle.std.proofs.Common.{◌≡◌, ℕ, Bool, false, ◌||◌, ◌&&◌, nat_eq, List, [], ◌∷◌, ◌++◌, map, IsTrue, ◌↔◌, refl, ap, ◌∙◌}
use Rattle.std.specs.List.{list_any, list_all, AllByRecursion, IsDistinct}
use Rattle.std.proofs.lemmas.Bool.{false≢true}
use Rattle.std.proofs.lemmas.Cmp.{nat_eq_equiv}
use Rattle.tft_codec.specs.Component.{has}

pub list_any_map : {X : Type 0} (p : ℕ → Bool) (f : X → ℕ) (xs : List X)
    → list_any p (map f xs) ≡ list_any (λ x. p (f x)) xs
list_any_map p f [] = refl
list_any_map p f (x ∷ xs) = ap (λ b. p (f x) || b) (list_any_map p f xs)

pub list_all_map : {X : Type 0} (p : ℕ → Bool) (f : X → ℕ) (xs : List X)
    → list_all p (map f xs) ≡ list_all (λ x. p (f x)) xs
list_all_map p f [] = refl
list_all_map p f (x ∷ xs) = ap (λ b. p (f x) && b) (list_all_map p f xs)

pub has_map : {X : Type 0} (f : X → ℕ) (xs : List X) (n : ℕ) → has (map f xs) n ≡ list_any (λ x. nat_eq n (f x)) xs
has_map f xs n = list_any_map (nat_eq n) f xs

-- no, where a fact cannot hold
pub refuted : {P : Type 0} → (P → ⊥) → IsTrue false ↔ P
refuted against = (λ shown. absurd (false≢true shown), λ p. absurd (against p))

pub none_differ : IsDistinct nat_eq []
unfolding IsDistinct
none_differ = tt

-- what holds of each, and of one more
pub each_push : {X : Type 0} (P : X → Type 0) (xs : List X) (y : X) → AllByRecursion P xs → P y
    → AllByRecursion P (xs ++ y ∷ [])
each_push P [] y each last = (last, tt)
each_push P (x ∷ xs) y each last = (each.0, each_push P xs y each.1 last)

pub each_append : {X : Type 0} (P : X → Type 0) (xs ys : List X) → AllByRecursion P xs → AllByRecursion P ys
    → AllByRecursion P (xs ++ ys)
each_append P [] ys prefix back = back
each_append P (x ∷ xs) ys prefix back = (prefix.0, each_append P xs ys prefix.1 back)

-- what holds of each holds of one in the middle
pub each_middle : {X : Type 0} (P : X → Type 0) (xs : List X) (y : X) (ys : List X) → AllByRecursion P (xs ++ y ∷ ys)
    → P y
each_middle P [] y ys each = each.0
each_middle P (x ∷ xs) y ys each = each_middle P xs y ys each.1

-- of numbers that differ, one is not among those before it
pub new_from_distinct : (xs : List ℕ) (y : ℕ) (ys : List ℕ) → IsDistinct nat_eq (xs ++ y ∷ ys) → has xs y ≡ false
unfolding IsDistinct
new_from_distinct [] y ys differ = refl
new_from_distinct (x ∷ xs) y ys differ =
    let apart : nat_eq y x ≡ false = nat_eq_equiv.symm y x ∙ each_middle (λ z. nat_eq x z ≡ false) xs y ys differ.0 in
    rw apart (new_from_distinct xs y ys differ.1)
