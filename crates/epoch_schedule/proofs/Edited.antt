-- Lists of which one element is changed or removed.
use Rattle.std.proofs.Common.{◌≡◌, ℕ, zero, suc, ◌+◌, ◌<◌, ◌≤◌, List, [], ◌∷◌, ◌++◌, length, get_or, set, map, take, drop, refl, sym, ap, ◌∙◌, arith, add-one}
use Rattle.std.specs.List.{remove}
use Rattle.epoch_schedule.specs.ControlTurns.{without}

pub remove_is : {X : Type 0} (xs : List X) (n : ℕ) → n < length xs → remove xs n ≡ without n xs
remove_is [] n within = absurd (omega (arith, within))
remove_is (x ∷ xs) zero within = refl
remove_is (x ∷ xs) (suc n) within = ap (λ ys. x ∷ ys) (remove_is xs n (omega (arith, within)))

pub without_past : {X : Type 0} (n : ℕ) (xs : List X) → length xs ≤ n → without n xs ≡ xs
without_past n [] past = refl
without_past zero (x ∷ xs) past = absurd (omega (arith, past))
without_past (suc n) (x ∷ xs) past = ap (λ ys. x ∷ ys) (without_past n xs (omega (arith, past)))

-- one more of a list that is changed from its front on
mapped_next : {X : Type 0} (f : X → X) (xs : List X) (i : ℕ) (d : X) → i < length xs
    → set (map f (take i xs) ++ drop i xs) i (f (get_or (map f (take i xs) ++ drop i xs) i d))
    ≡ map f (take (suc i) xs) ++ drop (suc i) xs
mapped_next f [] i d within = absurd (omega (arith, within))
mapped_next f (x ∷ xs) zero d within = refl
mapped_next f (x ∷ xs) (suc i) d within = ap (λ ys. f x ∷ ys) (mapped_next f xs i d (omega (arith, within)))

pub mapped_more : {X : Type 0} (f : X → X) (xs ys : List X) (i : ℕ) (d : X) → i < length xs
    → ys ≡ map f (take i xs) ++ drop i xs
    → set ys i (f (get_or ys i d)) ≡ map f (take (i + 1) xs) ++ drop (i + 1) xs
mapped_more f xs ys i d within are =
    ap (λ zs. set zs i (f (get_or zs i d))) are ∙ mapped_next f xs i d within
    ∙ ap (λ n. map f (take n xs) ++ drop n xs) (sym (add-one i))
