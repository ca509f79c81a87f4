-- A list that has no number more often than another is no longer.
use Rattle.std.proofs.Common.{◌≡◌, ℕ, ◌+◌, ◌≤◌, ◌==◌, ◌||◌, Bool, true, false, List, [], ◌∷◌, ◌++◌, length, cond, refl, ap, subst, arith}
use Rattle.std.proofs.lemmas.Bool.{eqb-true, false≢true}
use Rattle.std.specs.List.{list_any}
use Rattle.std.proofs.lemmas.List.Sums.{sum_by-append, sum_by-cons}
use Rattle.lawful_run.specs.Refusals.{different}
use Rattle.lawful_run.proofs.SlotCases.{eqb_same}
use Rattle.epoch_schedule.proofs.Steps.{times_in}

pub times-append : (s : ℕ) (xs ys : List ℕ) → times_in s (xs ++ ys) ≡ times_in s xs + times_in s ys
times-append s xs ys = sum_by-append (λ (x : ℕ). cond (x == s) 1 0) xs ys

pub times-cons : (s x : ℕ) (xs : List ℕ) → times_in s (x ∷ xs) ≡ cond (x == s) 1 0 + times_in s xs
times-cons s x xs = sum_by-cons (λ (x : ℕ). cond (x == s) 1 0) x xs

-- a list without one of a number
abbrev pub without_one : ℕ → List ℕ → List ℕ
without_one x [] = []
without_one x (y ∷ ys) = cond (y == x) ys (y ∷ without_one x ys)

-- the number that is taken out is the first one, or another
module _ (x y : ℕ) (ys : List ℕ) where
  times_by : (s : ℕ) (test : Bool) → (test ≡ true → y ≡ x)
      → times_in s ys ≤ times_in s (without_one x ys) + cond (x == s) 1 0
      → times_in s (y ∷ ys) ≤ times_in s (cond test ys (y ∷ without_one x ys)) + cond (x == s) 1 0
  times_by s true is few =
      let all = times-cons s y ys in
      let same = ap {B = ℕ} (λ k. cond (k == s) 1 0) (is refl) in
      omega (arith, all, same)
  times_by s false is few =
      let all = times-cons s y ys in
      let rest = times-cons s y (without_one x ys) in
      omega (arith, all, rest, few)

  length_by : (test : Bool) → (y == x) ≡ test → (1 ≤ times_in x ys → length ys ≡ length (without_one x ys) + 1)
      → 1 ≤ times_in x (y ∷ ys) → length (y ∷ ys) ≡ length (cond test ys (y ∷ without_one x ys)) + 1
  length_by true is rest some = omega arith
  length_by false is rest some =
      let all = times-cons x y ys in
      let none = ap {B = ℕ} (λ test. cond test 1 0) is in
      let more = rest (omega (arith, some, all, none)) in
      omega (arith, more)

times-without : (s x : ℕ) (ys : List ℕ) → times_in s ys ≤ times_in s (without_one x ys) + cond (x == s) 1 0
times-without s x [] = omega arith
times-without s x (y ∷ ys) = times_by x y ys s (y == x) (λ is. eqb-true y x is) (times-without s x ys)

length-without : (x : ℕ) (ys : List ℕ) → 1 ≤ times_in x ys → length ys ≡ length (without_one x ys) + 1
length-without x [] some = absurd (omega (arith, some))
length-without x (y ∷ ys) some = length_by x y ys (y == x) refl (length-without x ys) some

pub no_longer : (xs ys : List ℕ) → ((s : ℕ) → times_in s xs ≤ times_in s ys) → length xs ≤ length ys
no_longer [] ys few = omega arith
no_longer (x ∷ xs) ys few =
    let here = few x in
    let first = times-cons x x xs in
    let own = ap {B = ℕ} (λ test. cond test 1 0) (eqb_same x) in
    let shorter = length-without x ys (omega (arith, here, first, own)) in
    let rest = no_longer xs (without_one x ys)
    (λ s.
    let all = few s in
    let parts = times-cons s x xs in
    let left = times-without s x ys in
    omega (arith, all, parts, left)) in
    omega (arith, shorter, rest)

-- each number of a list once
abbrev pub once_each : List ℕ → List ℕ
once_each [] = []
once_each (x ∷ xs) = cond (list_any (λ other. other == x) xs) (once_each xs) (x ∷ once_each xs)

length-once_by : (test : Bool) (x : ℕ) (xs : List ℕ) → length (once_each xs) ≡ different xs
    → length (cond test (once_each xs) (x ∷ once_each xs)) ≡ cond test (different xs) (different xs + 1)
length-once_by true x xs same = same
length-once_by false x xs same = omega (arith, same)

pub length-once : (xs : List ℕ) → length (once_each xs) ≡ different xs
length-once [] = refl
length-once (x ∷ xs) = length-once_by (list_any (λ other. other == x) xs) x xs (length-once xs)

once_by : (s x : ℕ) (xs : List ℕ) (later own : Bool) → list_any (λ other. other == x) xs ≡ later → (x == s) ≡ own
    → (list_any (λ other. other == s) xs ≡ true → 1 ≤ times_in s (once_each xs))
    → (own || list_any (λ other. other == s) xs) ≡ true
    → 1 ≤ times_in s (cond later (once_each xs) (x ∷ once_each xs))
once_by s x xs true true again own rest some =
    rest (subst (λ k. list_any (λ other. other == k) xs ≡ true) (eqb-true x s own) again)
once_by s x xs true false again own rest some = rest some
once_by s x xs false true again own rest some =
    let all = times-cons s x (once_each xs) in
    let one = ap {B = ℕ} (λ test. cond test 1 0) own in
    omega (arith, all, one)
once_by s x xs false false again own rest some =
    let all = times-cons s x (once_each xs) in
    let more = rest some in
    omega (arith, all, more)

pub once_there : (s : ℕ) (xs : List ℕ) → list_any (λ other. other == s) xs ≡ true → 1 ≤ times_in s (once_each xs)
once_there s [] some = absurd (false≢true some)
once_there s (x ∷ xs) some =
    once_by s x xs (list_any (λ other. other == x) xs) (x == s) refl refl (once_there s xs) some
