-- Values of lists by slot.
use Rattle.std.proofs.Common.{◌≡◌, ℕ, zero, suc, ◌+◌, ◌*◌, ◌<◌, true≢false, is_some, arith, List, [], ◌∷◌, ◌++◌, length, map, get_or, replicate, refl, sym, ap, ◌∙◌, inl, inr}
use Rattle.std.specs.Prelude.{Option, Some, None}
use Rattle.std.specs.List.{sum_by}
use Rattle.std.proofs.lemmas.Bool.{cases_lt}
use Rattle.std.proofs.lemmas.List.{get_or_past}
use Rattle.std.proofs.lemmas.List.Folds.{fold-map, sum_by-replicate}
use Rattle.std.proofs.lemmas.List.Sums.{sum_by-append}
use Rattle.worker_core.specs.BySlot.{Grown}

-- free places
none_there : {X : Type 0} (more k : ℕ) → get_or {A = Option X} (replicate more None) k None ≡ None
none_there zero k = refl
none_there (suc more) zero = refl
none_there (suc more) (suc k) = none_there more k

pub at_more : {X : Type 0} (xs : List (Option X)) (more k : ℕ) → get_or (xs ++ replicate more None) k None ≡ get_or xs k None
at_more [] more k = none_there more k
at_more (x ∷ xs) more zero = refl
at_more (x ∷ xs) more (suc k) = at_more xs more k

pub at_grown : {X : Type 0} (old new : List (Option X)) (k : ℕ) → Grown old new → get_or new k None ≡ get_or old k None
at_grown old new k grown = ap (λ xs. get_or xs k None) grown.1 ∙ at_more old grown.0 k

-- what is told of each value
pub at_map : {X Y : Type 0} (f : X → Y) (xs : List X) (k : ℕ) (d : X) → get_or (map f xs) k (f d) ≡ f (get_or xs k d)
at_map f [] k d = refl
at_map f (x ∷ xs) zero d = refl
at_map f (x ∷ xs) (suc k) d = at_map f xs k d

pub same_at : {X Y : Type 0} (f : X → Y) (xs ys : List X) (k : ℕ) (d : X) → map f ys ≡ map f xs
    → f (get_or ys k d) ≡ f (get_or xs k d)
same_at f xs ys k d same = sym (at_map f ys k d) ∙ ap (λ zs. get_or zs k (f d)) same ∙ at_map f xs k d

-- sums of what is told of each value
pub sum_map : {X Y : Type 0} (f : Y → ℕ) (g : X → Y) (xs : List X) → sum_by f (map g xs) ≡ sum_by (λ x. f (g x)) xs
sum_map f g xs = fold-map (λ a y. a + f y) g 0 xs

pub sum_more : {X : Type 0} (f : Option X → ℕ) (xs : List (Option X)) (more : ℕ) → f None ≡ 0
    → sum_by f (xs ++ replicate more None) ≡ sum_by f xs
sum_more f xs more none =
    let parts = sum_by-append f xs (replicate more None) in
    let free = sum_by-replicate f more None in
    let nothing : more * f None ≡ 0 = ap (λ n. more * n) none ∙ times_none more in
    omega (arith, parts, free, nothing)
  where
    times_none : (n : ℕ) → n * 0 ≡ 0
    times_none n = omega arith

-- a value that is set
pub within : {X : Type 0} (xs : List (Option X)) (k : ℕ) (x : X) → get_or xs k None ≡ Some x → k < length xs
within xs k x is = elim (cases_lt k (length xs)) [
  | inl less ↦ less
  | inr most ↦ absurd (true≢false (sym (ap is_some (sym (get_or_past xs k None most) ∙ is))))
]
