-- What stands under each number, and steps for each of some numbers.
use Rattle.std.specs.Prelude.{ℕ, zero, suc, ◌+◌, List, [], ◌∷◌, get_or}

-- what was put under a number, and a fresh one where nothing was
abbrev pub value_at : {X : Type 0} → X → List X → ℕ → X
value_at fresh xs n = get_or xs n fresh

abbrev pub put_at : {X : Type 0} → X → List X → ℕ → X → List X
put_at fresh [] zero x = x ∷ []
put_at fresh [] (suc n) x = fresh ∷ put_at fresh [] n x
put_at fresh (y ∷ ys) zero x = x ∷ ys
put_at fresh (y ∷ ys) (suc n) x = y ∷ put_at fresh ys n x

-- a step so many times, and for so many numbers from the first one on
abbrev pub times : {X : Type 0} → ℕ → (X → X) → X → X
times zero step x = x
times (suc n) step x = times n step (step x)

abbrev pub for_each : {X : Type 0} → (X → ℕ → X) → X → (first count : ℕ) → X
for_each step x first zero = x
for_each step x first (suc n) = for_each step (step x first) (first + 1) n
