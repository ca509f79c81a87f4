-- Loops that do a step for each of some numbers or elements: one step is done, and the others are ahead.
use Rattle.std.proofs.Common.{◌≡◌, ℕ, zero, suc, ◌+◌, ◌-◌, ◌<◌, ◌≤◌, List, [], ◌∷◌, length, get_or, drop, fold, refl, sym, ap, ◌∙◌, arith, add-one}
use Rattle.epoch_schedule.specs.Numbers.{times, for_each}

pub drop_at : {X : Type 0} (xs : List X) (i : ℕ) (d : X) → i < length xs → drop i xs ≡ get_or xs i d ∷ drop (i + 1) xs
drop_at [] i d within = absurd (omega (arith, within))
drop_at (x ∷ xs) zero d within = refl
drop_at (x ∷ xs) (suc i) d within =
    drop_at xs i d (omega (arith, within)) ∙ ap (λ n. get_or xs i d ∷ drop n xs) (add-one i)
    ∙ ap (λ n. get_or xs i d ∷ drop n (x ∷ xs)) (sym (add-one (suc i)))

pub drop_end : {X : Type 0} (xs : List X) (i : ℕ) → length xs ≤ i → drop i xs ≡ []
drop_end [] zero past = refl
drop_end [] (suc i) past = refl
drop_end (x ∷ xs) zero past = absurd (omega (arith, past))
drop_end (x ∷ xs) (suc i) past = drop_end xs i (omega (arith, past))

-- a step so many times
pub times_less : {X : Type 0} (step : X → X) (n i : ℕ) (x : X) → i < n
    → times (n - i) step x ≡ times (n - (i + 1)) step (step x)
times_less step n i x below =
    let one : n - i ≡ suc (n - (i + 1)) = omega (arith, below) in
    ap (λ m. times m step x) one

-- for each number
pub each_less : {X : Type 0} (step : X → ℕ → X) (n i : ℕ) (x : X) → i < n
    → for_each step x i (n - i) ≡ for_each step (step x i) (i + 1) (n - (i + 1))
each_less step n i x below =
    let one : n - i ≡ suc (n - (i + 1)) = omega (arith, below) in
    ap (λ m. for_each step x i m) one

pub each_more : {X : Type 0} (step : X → ℕ → X) (n i : ℕ) (x y all : X) → i < n → y ≡ step x i
    → for_each step x i (n - i) ≡ all → for_each step y (i + 1) (n - (i + 1)) ≡ all
each_more step n i x y all below is ahead =
    ap (λ z. for_each step z (i + 1) (n - (i + 1))) is ∙ sym (each_less step n i x below) ∙ ahead

pub each_none : {X : Type 0} (step : X → ℕ → X) (x : X) (first n : ℕ)
    → ((i : ℕ) → i < first + n → step x i ≡ x) → for_each step x first n ≡ x
each_none step x first zero none = refl
each_none step x first (suc n) none =
    ap (λ y. for_each step y (first + 1) n) (none first (omega arith))
    ∙ each_none step x (first + 1) n (λ i below. none i (omega (arith, below)))

pub each_done : {X : Type 0} (step : X → ℕ → X) (n i : ℕ) (x all : X) → n ≤ i
    → for_each step x i (n - i) ≡ all → x ≡ all
each_done step n i x all past ahead =
    let none : n - i ≡ 0 = omega (arith, past) in
    sym (ap (λ m. for_each step x i m) none) ∙ ahead

-- for each element
pub fold_more : {X Y : Type 0} (step : X → Y → X) (ys : List Y) (i : ℕ) (d : Y) (x z all : X) → i < length ys
    → z ≡ step x (get_or ys i d) → fold step x (drop i ys) ≡ all → fold step z (drop (i + 1) ys) ≡ all
fold_more step ys i d x z all below is ahead =
    ap (λ w. fold step w (drop (i + 1) ys)) is ∙ sym (ap (fold step x) (drop_at ys i d below)) ∙ ahead

pub times_more : {X : Type 0} (step : X → X) (n i : ℕ) (x y all : X) → i < n → y ≡ step x
    → times (n - i) step x ≡ all → times (n - (i + 1)) step y ≡ all
times_more step n i x y all below is ahead =
    ap (times (n - (i + 1)) step) is ∙ sym (times_less step n i x below) ∙ ahead

pub times_done : {X : Type 0} (step : X → X) (n i : ℕ) (x all : X) → n ≤ i → times (n - i) step x ≡ all → x ≡ all
times_done step n i x all past ahead =
    let none : n - i ≡ 0 = omega (arith, past) in
    sym (ap (λ m. times m step x) none) ∙ ahead

-- a step that changes nothing
pub times_stuck : {X : Type 0} (step : X → X) (n : ℕ) (x : X) → step x ≡ x → times n step x ≡ x
times_stuck step zero x is = refl
times_stuck step (suc n) x is = ap (times n step) is ∙ times_stuck step n x is
