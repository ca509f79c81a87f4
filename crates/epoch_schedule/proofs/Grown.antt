-- Lists that grow with the numbers that are used.
use Rattle.std.proofs.Common.{◌≡◌, ℕ, zero, suc, ◌<◌, ◌≤◌, List, [], ◌∷◌, ◌++◌, length, get_or, set, refl, sym, ap, subst, ◌∙◌, arith, append-nil, append_assoc, length-append}
use Rattle.std.proofs.lemmas.Fn.{chained_keeps}
use Rattle.std.specs.List.{AppendsResults}
use Rattle.epoch_schedule.specs.Numbers.{value_at, put_at}
use Rattle.epoch_schedule.specs.Growing.{Reached}

-- one fresh value more changes nothing
pub value-grown : {X : Type 0} (fresh : X) (xs : List X) (n : ℕ)
    → value_at fresh (xs ++ fresh ∷ []) n ≡ value_at fresh xs n
value-grown fresh [] zero = refl
value-grown fresh [] (suc n) = refl
value-grown fresh (x ∷ xs) zero = refl
value-grown fresh (x ∷ xs) (suc n) = value-grown fresh xs n

pub put-grown : {X : Type 0} (fresh : X) (xs : List X) (n : ℕ) (x : X) → length xs ≤ n
    → put_at fresh (xs ++ fresh ∷ []) n x ≡ put_at fresh xs n x
put-grown fresh [] zero x few = refl
put-grown fresh [] (suc n) x few = refl
put-grown fresh (y ∷ ys) zero x few = absurd (omega (arith, few))
put-grown fresh (y ∷ ys) (suc n) x few = ap (λ zs. y ∷ zs) (put-grown fresh ys n x (omega (arith, few)))

pub value-within : {X : Type 0} (fresh other : X) (xs : List X) (n : ℕ) → n < length xs
    → get_or xs n other ≡ value_at fresh xs n
value-within fresh other [] n within = absurd (omega (arith, within))
value-within fresh other (x ∷ xs) zero within = refl
value-within fresh other (x ∷ xs) (suc n) within = value-within fresh other xs n (omega (arith, within))

pub set-put : {X : Type 0} (fresh : X) (xs : List X) (n : ℕ) (x : X) → n < length xs
    → set xs n x ≡ put_at fresh xs n x
set-put fresh [] n x within = absurd (omega (arith, within))
set-put fresh (y ∷ ys) zero x within = refl
set-put fresh (y ∷ ys) (suc n) x within = ap (λ zs. y ∷ zs) (set-put fresh ys n x (omega (arith, within)))

-- a list on the way to be long enough
pub record Grows {X : Type 0} (fresh : X) (old new : List X) (n : ℕ) : Type 0 where
  pub value : value_at fresh new n ≡ value_at fresh old n
  pub puts : (x : X) → put_at fresh new n x ≡ put_at fresh old n x

pub grows_none : {X : Type 0} (fresh : X) (xs : List X) (n : ℕ) → Grows fresh xs xs n
grows_none fresh xs n = record { value = refl; puts = λ x. refl }

pub grows_more : {X : Type 0} (fresh : X) (old new more : List X) (n : ℕ) → length new ≤ n
    → more ≡ new ++ fresh ∷ [] → Grows fresh old new n → Grows fresh old more n
grows_more fresh old new more n few is grows =
    rw is (record {
      value = value-grown fresh new n ∙ grows.value;
      puts = λ x. put-grown fresh new n x few ∙ grows.puts x;
    })

-- .. by as many values as calls made, each of them fresh
pub grows_calls : {X F : Type 0} (step : F → X → F → Type 0) (fresh : X) (old now new : List X) (f : F) (n : ℕ)
    → ((p : F) (x : X) (q : F) → step p x q → x ≡ fresh) → AppendsResults step now new f → length new ≤ n
    → Grows fresh old now n → Grows fresh old new n
grows_calls step fresh old now new f n each made few grows =
    subst (λ zs. Grows fresh old zs n) (sym made.2)
    (chained_keeps step (λ xs p. length (now ++ xs) ≤ n → Grows fresh old (now ++ xs) n)
    (λ xs p x q before stepped within.
    let longer = length-append now (xs ++ x ∷ []) in
    let pushed = length-append xs (x ∷ []) in
    let shorter = length-append now xs in
    grows_more fresh old (now ++ xs) (now ++ (xs ++ x ∷ [])) n (omega (arith, within, longer, pushed, shorter))
    (sym (append_assoc now xs (x ∷ [])) ∙ ap (λ y. now ++ xs ++ y ∷ []) (each p x q stepped))
    (before (omega (arith, within, longer, pushed, shorter))))
    made.0 f made.1 (λ within. subst (λ zs. Grows fresh old zs n) (sym (append-nil now)) grows) made.3
    (subst (λ zs. length zs ≤ n) made.2 few))

pub reached : {X : Type 0} (fresh : X) (old new : List X) (n : ℕ) → n < length new → Grows fresh old new n
    → Reached fresh old new n
reached fresh old new n within grows = record {
  within = within;
  value = λ other. value-within fresh other new n within ∙ grows.value;
  puts = λ x. set-put fresh new n x within ∙ grows.puts x;
}

-- what a number has behind a change of it
pub changed : {X : Type 0} (fresh : X) (old new : List X) (n : ℕ) (change : X → X) (x y : X)
    → Reached fresh old new n → x ≡ get_or new n x → y ≡ change x
    → set new n y ≡ put_at fresh old n (change (value_at fresh old n))
changed fresh old new n change x y reached is by =
    reached.puts y ∙ ap (put_at fresh old n) (by ∙ ap change (is ∙ reached.value x))

pub changed_within : {X : Type 0} (fresh : X) (xs : List X) (n : ℕ) (change : X → X) (x y : X) → n < length xs
    → x ≡ get_or xs n x → y ≡ change x → set xs n y ≡ put_at fresh xs n (change (value_at fresh xs n))
changed_within fresh xs n change x y within is by =
    set-put fresh xs n y within ∙ ap (put_at fresh xs n) (by ∙ ap change (is ∙ value-within fresh x xs n within))

-- one change behind another
pub value_put : {X : Type 0} (fresh : X) (xs : List X) (n : ℕ) (x : X) → value_at fresh (put_at fresh xs n x) n ≡ x
value_put fresh [] zero x = refl
value_put fresh [] (suc n) x = value_put fresh [] n x
value_put fresh (y ∷ ys) zero x = refl
value_put fresh (y ∷ ys) (suc n) x = value_put fresh ys n x

pub put_put : {X : Type 0} (fresh : X) (xs : List X) (n : ℕ) (x z : X)
    → put_at fresh (put_at fresh xs n x) n z ≡ put_at fresh xs n z
put_put fresh [] zero x z = refl
put_put fresh [] (suc n) x z = ap (λ zs. fresh ∷ zs) (put_put fresh [] n x z)
put_put fresh (y ∷ ys) zero x z = refl
put_put fresh (y ∷ ys) (suc n) x z = ap (λ zs. y ∷ zs) (put_put fresh ys n x z)

pub changed_twice : {X : Type 0} (fresh : X) (xs : List X) (n : ℕ) (x : X) (change : X → X)
    → put_at fresh (put_at fresh xs n x) n (change (value_at fresh (put_at fresh xs n x) n))
    ≡ put_at fresh xs n (change x)
changed_twice fresh xs n x change =
    ap (λ y. put_at fresh (put_at fresh xs n x) n (change y)) (value_put fresh xs n x)
    ∙ put_put fresh xs n x (change x)
