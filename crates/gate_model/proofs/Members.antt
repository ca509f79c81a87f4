-- What is in a list, and numbers that differ.
use Rattle.std.proofs.Common.{◌≡◌, ◌≢◌, ℕ, zero, suc, ◌+◌, ◌<◌, Bool, true, false, cond, List, [], ◌∷◌, ◌++◌, length, get_or, map, All, Contains, Option, Some, None, refl, sym, ap, ◌∙◌, subst, inl, inr, ◌⊎◌, arith}
use Rattle.std.specs.List.{AllByRecursion, filter, filter_map, cons_option, find, list_any}
use Rattle.std.proofs.lemmas.Bool.{false≢true, or_cases, or_left, or_right}
use Rattle.std.proofs.lemmas.List.Elements.{All-from_recursion}

-- an element of a list
abbrev pub In : {X : Type 0} → X → List X → Type 0
In x [] = ⊥
In x (y ∷ ys) = (y ≡ x) ⊎ In x ys

pub in_append : {X : Type 0} (x : X) (xs ys : List X) → In x (xs ++ ys) → In x xs ⊎ In x ys
in_append x [] ys there = inr there
in_append x (y ∷ xs) ys (inl here) = inl (inl here)
in_append x (y ∷ xs) ys (inr there) = elim (in_append x xs ys there) [ inl a ↦ inl (inr a) | inr b ↦ inr b ]

pub in_left : {X : Type 0} (x : X) (xs ys : List X) → In x xs → In x (xs ++ ys)
in_left x [] ys there = absurd there
in_left x (y ∷ xs) ys (inl here) = inl here
in_left x (y ∷ xs) ys (inr there) = inr (in_left x xs ys there)

pub in_right : {X : Type 0} (x : X) (xs ys : List X) → In x ys → In x (xs ++ ys)
in_right x [] ys there = there
in_right x (y ∷ xs) ys there = inr (in_right x xs ys there)

-- what holds of each holds of one · and is shown of each by each one
pub at_each : {X : Type 0} (P : X → Type 0) (x : X) (xs : List X) → AllByRecursion P xs → In x xs → P x
at_each P x [] each there = absurd there
at_each P x (y ∷ xs) each (inl here) = subst P here each.0
at_each P x (y ∷ xs) each (inr there) = at_each P x xs each.1 there

pub each_at : {X : Type 0} (P : X → Type 0) (xs : List X) → ((x : X) → In x xs → P x) → AllByRecursion P xs
each_at P [] at = tt
each_at P (y ∷ xs) at = (at y (inl refl), each_at P xs (λ x there. at x (inr there)))

-- an element of a mapped list · of a filtered one · of what is kept of a list
pub of_map : {X Y : Type 0} (f : X → Y) (y : Y) (xs : List X) → In y (map f xs) → (x : X) × In x xs × (f x ≡ y)
of_map f y [] there = absurd there
of_map f y (x ∷ xs) (inl here) = (x, inl refl, here)
of_map f y (x ∷ xs) (inr there) = let found = of_map f y xs there in (found.0, inr found.1, found.2)

pub in_map : {X Y : Type 0} (f : X → Y) (x : X) (xs : List X) → In x xs → In (f x) (map f xs)
in_map f x [] there = absurd there
in_map f x (y ∷ xs) (inl here) = inl (ap f here)
in_map f x (y ∷ xs) (inr there) = inr (in_map f x xs there)

of_cond : {X : Type 0} (passes : Bool) (x y : X) (xs : List X) → In x (cond passes (y ∷ xs) xs)
    → ((y ≡ x) × (passes ≡ true)) ⊎ In x xs
of_cond true x y xs (inl here) = inl (here, refl)
of_cond true x y xs (inr there) = inr there
of_cond false x y xs there = inr there

pub of_filter : {X : Type 0} (test : X → Bool) (x : X) (xs : List X) → In x (filter test xs) → In x xs × (test x ≡ true)
of_filter test x [] there = absurd there
of_filter test x (y ∷ xs) there = elim (of_cond (test y) x y (filter test xs) there) [
  | inl here ↦ (inl here.0, ap test (sym here.0) ∙ here.1)
  | inr more ↦ let found = of_filter test x xs more in (inr found.0, found.1)
]

in_cond : {X : Type 0} (passes : Bool) (x y : X) (xs : List X) → In x xs → In x (cond passes (y ∷ xs) xs)
in_cond true x y xs there = inr there
in_cond false x y xs there = there

in_cond_here : {X : Type 0} (passes : Bool) (x y : X) (xs : List X) → y ≡ x → passes ≡ true
    → In x (cond passes (y ∷ xs) xs)
in_cond_here true x y xs here passed = inl here
in_cond_here false x y xs here passed = absurd (false≢true passed)

pub in_filter : {X : Type 0} (test : X → Bool) (x : X) (xs : List X) → In x xs → test x ≡ true → In x (filter test xs)
in_filter test x [] there passed = absurd there
in_filter test x (y ∷ xs) (inl here) passed = in_cond_here (test y) x y (filter test xs) here (ap test here ∙ passed)
in_filter test x (y ∷ xs) (inr there) passed = in_cond (test y) x y (filter test xs) (in_filter test x xs there passed)

of_option : {X : Type 0} (y : X) (o : Option X) (ys : List X) → In y (cons_option o ys) → (o ≡ Some y) ⊎ In y ys
of_option y None ys there = inr there
of_option y (Some x) ys (inl here) = inl (ap (λ z. Some z) here)
of_option y (Some x) ys (inr there) = inr there

pub of_filter_map : {X Y : Type 0} (f : X → Option Y) (y : Y) (xs : List X) → In y (filter_map f xs) → (x : X)
    × In x xs × (f x ≡ Some y)
of_filter_map f y [] there = absurd there
of_filter_map f y (x ∷ xs) there = elim (of_option y (f x) (filter_map f xs) there) [
  | inl here ↦ (x, inl refl, here)
  | inr more ↦ let found = of_filter_map f y xs more in (found.0, inr found.1, found.2)
]

in_option : {X : Type 0} (y : X) (o : Option X) (ys : List X) → In y ys → In y (cons_option o ys)
in_option y None ys there = there
in_option y (Some x) ys there = inr there

in_option_here : {X : Type 0} (y : X) (o : Option X) (ys : List X) → o ≡ Some y → In y (cons_option o ys)
in_option_here y None ys is = absurd (cc)
in_option_here y (Some x) ys is = inl (cc)

pub in_filter_map : {X Y : Type 0} (f : X → Option Y) (x : X) (y : Y) (xs : List X) → In x xs → f x ≡ Some y
    → In y (filter_map f xs)
in_filter_map f x y [] there is = absurd there
in_filter_map f x y (z ∷ xs) (inl here) is = in_option_here y (f z) (filter_map f xs) (ap f here ∙ is)
in_filter_map f x y (z ∷ xs) (inr there) is = in_option y (f z) (filter_map f xs) (in_filter_map f x y xs there is)

-- what is found is in the list, and passes · what is in the list is found
found_cond : {X : Type 0} (passes : Bool) (x y : X) (rest : Option X) → cond passes (Some y) rest ≡ Some x
    → ((y ≡ x) × (passes ≡ true)) ⊎ (rest ≡ Some x)
found_cond true x y rest is = inl (cc, refl)
found_cond false x y rest is = inr is

pub of_find : {X : Type 0} (test : X → Bool) (x : X) (xs : List X) → find test xs ≡ Some x → In x xs × (test x ≡ true)
of_find test x [] is = absurd (cc)
of_find test x (y ∷ xs) is = elim (found_cond (test y) x y (find test xs) is) [
  | inl here ↦ (inl here.0, ap test (sym here.0) ∙ here.1)
  | inr more ↦ let found = of_find test x xs more in (inr found.0, found.1)
]

any_from : {X : Type 0} (test : X → Bool) (y : X) (ys : List X) → (test y ≡ true) ⊎ (list_any test ys ≡ true)
    → (list_any test ys ≡ true → (x : X) × In x ys × (test x ≡ true))
    → (x : X) × In x (y ∷ ys) × (test x ≡ true)
any_from test y ys (inl here) behind = (y, inl refl, here)
any_from test y ys (inr more) behind = let found = behind more in (found.0, inr found.1, found.2)

pub of_any : {X : Type 0} (test : X → Bool) (xs : List X) → list_any test xs ≡ true → (x : X) × In x xs
    × (test x ≡ true)
of_any test [] any = absurd (false≢true any)
of_any test (y ∷ ys) any = any_from test y ys (or_cases (test y) (list_any test ys) any) (λ more. of_any test ys more)

pub in_any : {X : Type 0} (test : X → Bool) (x : X) (xs : List X) → In x xs → test x ≡ true → list_any test xs ≡ true
in_any test x [] there passed = absurd there
in_any test x (y ∷ ys) (inl here) passed = or_left (test y) (list_any test ys) (ap test here ∙ passed)
in_any test x (y ∷ ys) (inr there) passed = or_right (test y) (list_any test ys) (in_any test x ys there passed)

-- numbers that differ
abbrev pub IsOther : ℕ → List ℕ → Type 0
IsOther n [] = Unit {0}
IsOther n (m ∷ ms) = (n ≢ m) × IsOther n ms

abbrev pub AreDistinct : List ℕ → Type 0
AreDistinct [] = Unit {0}
AreDistinct (n ∷ ns) = IsOther n ns × AreDistinct ns

pub other_at : (n m : ℕ) (ns : List ℕ) → IsOther n ns → In m ns → n ≢ m
other_at n m [] other there = absurd there
other_at n m (k ∷ ns) other (inl here) = λ same. other.0 (same ∙ sym here)
other_at n m (k ∷ ns) other (inr there) = other_at n m ns other.1 there

pub other_if : (n : ℕ) (ns : List ℕ) → ((m : ℕ) → In m ns → n ≢ m) → IsOther n ns
other_if n [] differs = tt
other_if n (m ∷ ns) differs = (differs m (inl refl), other_if n ns (λ k there. differs k (inr there)))

-- of two elements with one number where numbers differ, there is one
pub one_of : {X : Type 0} (number : X → ℕ) (x y : X) (xs : List X) → AreDistinct (map number xs) → In x xs
    → In y xs → number x ≡ number y → x ≡ y
one_of number x y [] apart a b same = absurd a
one_of number x y (z ∷ xs) apart (inl a) (inl b) same = sym a ∙ b
one_of number x y (z ∷ xs) apart (inl a) (inr b) same =
    absurd (other_at (number z) (number y) (map number xs) apart.0 (in_map number y xs b) (ap number a ∙ same))
one_of number x y (z ∷ xs) apart (inr a) (inl b) same =
    absurd (other_at (number z) (number x) (map number xs) apart.0 (in_map number x xs a) (ap number b ∙ sym same))
one_of number x y (z ∷ xs) apart (inr a) (inr b) same = one_of number x y xs apart.1 a b same

-- numbers of a part of a list differ too
pub other_kept : {X : Type 0} (number : X → ℕ) (n : ℕ) (passes : Bool) (x : X) (xs : List X)
    → IsOther n (map number (x ∷ xs)) → IsOther n (map number xs)
other_kept number n passes x xs other = other.1

other_filter : {X : Type 0} (number : X → ℕ) (n : ℕ) (test : X → Bool) (xs : List X) → IsOther n (map number xs)
    → IsOther n (map number (filter test xs))
other_filter number n test xs other = other_if n (map number (filter test xs)) (λ m there.
    let found = of_map number m (filter test xs) there in
    let inside = of_filter test found.0 xs found.1 in
    other_at n m (map number xs) other (subst (λ k. In k (map number xs)) found.2 (in_map number found.0 xs inside.0)))

distinct_cond : {X : Type 0} (number : X → ℕ) (passes : Bool) (x : X) (xs : List X)
    → IsOther (number x) (map number xs) → AreDistinct (map number xs)
    → AreDistinct (map number (cond passes (x ∷ xs) xs))
distinct_cond number true x xs other apart = (other, apart)
distinct_cond number false x xs other apart = apart

pub distinct_filter : {X : Type 0} (number : X → ℕ) (test : X → Bool) (xs : List X) → AreDistinct (map number xs)
    → AreDistinct (map number (filter test xs))
distinct_filter number test [] apart = tt
distinct_filter number test (x ∷ xs) apart =
    distinct_cond number (test x) x (filter test xs) (other_filter number (number x) test xs apart.0)
    (distinct_filter number test xs apart.1)

-- between these words and those of the library
pub contains_in : {X : Type 0} (x : X) (xs : List X) → In x xs → Contains xs x
contains_in x [] there = absurd there
contains_in x (y ∷ xs) (inl here) = (0, omega arith, here)
contains_in x (y ∷ xs) (inr there) =
    let behind = contains_in x xs there in (suc behind.0, omega (arith, behind.1), behind.2)

pub all_other : (n : ℕ) (ns : List ℕ) → IsOther n ns → All (λ other. other ≢ n) ns
all_other n ns other = All-from_recursion (λ other. other ≢ n) ns (by_each n ns other)
  where
    by_each : (n : ℕ) (ns : List ℕ) → IsOther n ns → AllByRecursion (λ other. other ≢ n) ns
    by_each n [] other = tt
    by_each n (m ∷ ns) other = (λ same. other.0 (sym same), by_each n ns other.1)

pub in_contains : {X : Type 0} (x : X) (xs : List X) → Contains xs x → In x xs
in_contains x xs at = by_place x xs at.0 at.1 at.2
  where
    by_place : {X : Type 0} (x : X) (xs : List X) (k : ℕ) → k < length xs → get_or xs k x ≡ x → In x xs
    by_place x [] k within is = absurd (omega arith)
    by_place x (y ∷ xs) zero within is = inl is
    by_place x (y ∷ xs) (suc k) within is = inr (by_place x xs k (omega arith) is)
