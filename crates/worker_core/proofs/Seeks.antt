-- What a search for the half of a slot finds.
use Rattle.std.proofs.Common.{◌≡◌, ℕ, zero, suc, ◌+◌, ◌<◌, Bool, true, false, true≢false, cond, List, [], ◌∷◌, length}
use Rattle.std.proofs.Common.{get_or, Option, Some, None, refl, sym, ap, ◌∙◌, arith}
use Rattle.std.specs.Prelude.{nat_eq, ◌||◌, IfSome, IsNone}
use Rattle.std.specs.List.{list_any, position, position_from}
use Rattle.std.proofs.lemmas.Option.{none-some}
use Rattle.std.proofs.lemmas.List.Quantifiers.{position-Some}
use Rattle.std.proofs.lemmas.Iterator.Adapters.{position_from-zero}
use Rattle.std.proofs.lemmas.Bool.{eqb-true, eq-eqb}

-- where a search finds none, none passes
from_none : {X : Type 0} (p : X → Bool) (i : ℕ) (xs : List X) → position_from p i xs ≡ None → list_any p xs ≡ false
from_none p i [] e = refl
from_none p i (x ∷ xs) e = elim (p x) as (λ b. cond b (Some i) (position_from p (i + 1) xs) ≡ None
    → (b || list_any p xs) ≡ false) [
      | true ↦ λ e. absurd (none-some i (sym e))
      | false ↦ λ e. from_none p (i + 1) xs e
    ] e

pub none_positioned : {X : Type 0} (p : X → Bool) (xs : List X) → position p xs ≡ None → list_any p xs ≡ false
none_positioned p xs e = from_none p 0 xs (sym (position_from-zero p xs) ∙ e)

-- the first that a search finds
pub found_positioned : {H : Type 0} (slot : H → ℕ) (s : ℕ) (xs : List H) (k : ℕ)
    → position (λ half. nat_eq (slot half) s) xs ≡ Some k
    → (k < length xs) × ((none : H) → slot (get_or xs k none) ≡ s)
found_positioned slot s [] k e = absurd (none-some k e)
found_positioned {H} slot s (x ∷ xs) k e =
    let test : H → Bool = λ half. nat_eq (slot half) s in (
      (position-Some test (x ∷ xs) k x e).0,
      λ none. eqb-true (slot (get_or (x ∷ xs) k none)) s (position-Some test (x ∷ xs) k none e).1,
    )

pub if_found : {H : Type 0} (slot : H → ℕ) (s : ℕ) (xs : List H) (o : Option ℕ)
    → o ≡ position (λ half. nat_eq (slot half) s) xs
    → IfSome o (λ k. (k < length xs) × ((none : H) → slot (get_or xs k none) ≡ s))
if_found slot s xs None e = tt
if_found slot s xs (Some k) e = found_positioned slot s xs k (sym e)

pub if_none : {H : Type 0} (slot : H → ℕ) (s : ℕ) (xs : List H) (o : Option ℕ)
    → o ≡ position (λ half. nat_eq (slot half) s) xs
    → IsNone o → list_any (λ half. nat_eq (slot half) s) xs ≡ false
if_none slot s xs None e none = none_positioned (λ half. nat_eq (slot half) s) xs (sym e)
if_none slot s xs (Some k) e none = absurd (true≢false none)

-- where a half of the slot stands, one is held
pub held_there : {H : Type 0} (slot : H → ℕ) (s : ℕ) (xs : List H) (k : ℕ) → k < length xs
    → ((none : H) → slot (get_or xs k none) ≡ s) → list_any (λ half. nat_eq (slot half) s) xs ≡ true
held_there slot s [] k within is = absurd (omega arith)
held_there slot s (x ∷ xs) zero within is =
    ap (λ b. b || list_any (λ half. nat_eq (slot half) s) xs) (eq-eqb (slot x) s (is x))
held_there slot s (x ∷ xs) (suc k) within is =
    ap (λ b. nat_eq (slot x) s || b) (held_there slot s xs k (omega arith) is) ∙ or_true (nat_eq (slot x) s) where
      or_true : (a : Bool) → (a || true) ≡ true
      or_true true = refl
      or_true false = refl
