-- What holds at each number, and what steps keep.
use Rattle.std.proofs.Common.{◌≡◌, ℕ, zero, suc, ◌+◌, ◌<◌, ◌==◌, Bool, true, false, List, [], ◌∷◌, ◌++◌, length, get_or, fold, cond, refl, sym, ap, subst, ◌∙◌, inl, inr, arith}
use Rattle.std.proofs.lemmas.Bool.{cases_eq, eqb-true, eq-eqb, ne_eqb}
use Rattle.epoch_schedule.specs.Numbers.{value_at, put_at, times, for_each}

pub put_each : {X : Type 0} (P : ℕ → X → Type 0) (fresh : X) (xs : List X) (n : ℕ) (x : X)
    → ((m : ℕ) → P m (value_at fresh xs m)) → P n x → (m : ℕ) → P m (value_at fresh (put_at fresh xs n x) m)
put_each P fresh [] zero x each here zero = here
put_each P fresh [] zero x each here (suc m) = each (suc m)
put_each P fresh [] (suc n) x each here zero = each 0
put_each P fresh [] (suc n) x each here (suc m) =
    put_each (λ k. P (suc k)) fresh [] n x (λ k. each (suc k)) here m
put_each P fresh (y ∷ ys) zero x each here zero = here
put_each P fresh (y ∷ ys) zero x each here (suc m) = each (suc m)
put_each P fresh (y ∷ ys) (suc n) x each here zero = each 0
put_each P fresh (y ∷ ys) (suc n) x each here (suc m) =
    put_each (λ k. P (suc k)) fresh ys n x (λ k. each (suc k)) here m

eqb-suc : (n m : ℕ) → (suc n == suc m) ≡ (n == m)
eqb-suc n m = elim (cases_eq n m) [
  | inl same ↦ eq-eqb (suc n) (suc m) (ap suc same) ∙ sym (eq-eqb n m same)
  | inr other ↦ ne_eqb (suc n) (suc m) (λ is. other (omega (arith, is))) ∙ sym (ne_eqb n m other)
]

-- what was put stands there, and the others as they were
pub value-put : {X : Type 0} (fresh : X) (xs : List X) (n m : ℕ) (x : X)
    → value_at fresh (put_at fresh xs n x) m ≡ cond (n == m) x (value_at fresh xs m)
value-put fresh [] zero zero x = refl
value-put fresh [] zero (suc m) x =
    sym (ap (λ test. cond test x fresh) (ne_eqb 0 (suc m) (λ is. omega (arith, is))))
value-put fresh [] (suc n) zero x =
    sym (ap (λ test. cond test x fresh) (ne_eqb (suc n) 0 (λ is. omega (arith, is))))
value-put fresh [] (suc n) (suc m) x =
    value-put fresh [] n m x ∙ sym (ap (λ test. cond test x fresh) (eqb-suc n m))
value-put fresh (y ∷ ys) zero zero x = refl
value-put fresh (y ∷ ys) zero (suc m) x =
    sym (ap (λ test. cond test x (value_at fresh ys m)) (ne_eqb 0 (suc m) (λ is. omega (arith, is))))
value-put fresh (y ∷ ys) (suc n) zero x =
    sym (ap (λ test. cond test x y) (ne_eqb (suc n) 0 (λ is. omega (arith, is))))
value-put fresh (y ∷ ys) (suc n) (suc m) x =
    value-put fresh ys n m x ∙ sym (ap (λ test. cond test x (value_at fresh ys m)) (eqb-suc n m))

pub eqb_same : (n : ℕ) → (n == n) ≡ true
eqb_same n = eq-eqb n n refl

pub cond_keeps : {X : Type 0} (P : X → Type 0) (test : Bool) (x y : X) → P x → P y → P (cond test x y)
cond_keeps P true x y yes_holds no_holds = yes_holds
cond_keeps P false x y yes_holds no_holds = no_holds

-- where the test's outcome matters
pub cond_gives : {X : Type 0} (P : X → Type 0) (test : Bool) (x y : X) → (test ≡ true → P x) → (test ≡ false → P y)
    → P (cond test x y)
cond_gives P true x y yes_holds no_holds = yes_holds refl
cond_gives P false x y yes_holds no_holds = no_holds refl

-- what holds of what was put, and of the others
pub put_others : {X : Type 0} (P : ℕ → X → Type 0) (fresh : X) (xs : List X) (n : ℕ) (x : X)
    → ((m : ℕ) → (n == m) ≡ false → P m (value_at fresh xs m)) → P n x
    → (m : ℕ) → P m (value_at fresh (put_at fresh xs n x) m)
put_others P fresh xs n x each here m =
    subst (P m) (sym (value-put fresh xs n m x))
    (cond_gives (P m) (n == m) x (value_at fresh xs m) (λ is. subst (λ k. P k x) (eqb-true n m is) here) (each m))

pub fold_keeps : {X Y : Type 0} (P : X → Type 0) (step : X → Y → X) → ((x : X) (y : Y) → P x → P (step x y))
    → (x : X) (ys : List Y) → P x → P (fold step x ys)
fold_keeps P step keeps x [] here = here
fold_keeps P step keeps x (y ∷ ys) here = fold_keeps P step keeps (step x y) ys (keeps x y here)

pub times_keeps : {X : Type 0} (P : X → Type 0) (step : X → X) → ((x : X) → P x → P (step x)) → (n : ℕ) (x : X) → P x
    → P (times n step x)
times_keeps P step keeps zero x here = here
times_keeps P step keeps (suc n) x here = times_keeps P step keeps n (step x) (keeps x here)

pub for_each_keeps : {X : Type 0} (P : X → Type 0) (step : X → ℕ → X) → ((x : X) (n : ℕ) → P x → P (step x n))
    → (x : X) (first count : ℕ) → P x → P (for_each step x first count)
for_each_keeps P step keeps x first zero here = here
for_each_keeps P step keeps x first (suc n) here =
    for_each_keeps P step keeps (step x first) (first + 1) n (keeps x first here)

-- one more at the end of a list
pub get_or-front : {X : Type 0} (xs : List X) (x : X) (n : ℕ) (other : X) → n < length xs
    → get_or (xs ++ x ∷ []) n other ≡ get_or xs n other
get_or-front [] x n other within = absurd (omega (arith, within))
get_or-front (y ∷ xs) x zero other within = refl
get_or-front (y ∷ xs) x (suc n) other within = get_or-front xs x n other (omega (arith, within))

pub get_or-last : {X : Type 0} (xs : List X) (x : X) (other : X) → get_or (xs ++ x ∷ []) (length xs) other ≡ x
get_or-last [] x other = refl
get_or-last (y ∷ xs) x other = get_or-last xs x other

pub get_or-last_at : {X : Type 0} (xs : List X) (x : X) (n : ℕ) (other : X) → n ≡ length xs
    → get_or (xs ++ x ∷ []) n other ≡ x
get_or-last_at xs x n other is = ap (λ k. get_or (xs ++ x ∷ []) k other) is ∙ get_or-last xs x other
