-- What holds of each value of a list, by its place.
use Rattle.std.proofs.Common.{◌≡◌, ℕ, ◌+◌, ◌<◌, List, [], ◌∷◌, ◌++◌, length, get_or, set, get_or-set_same, get_or-set_other, length-set, sym, subst, inl, inr, arith, length-append}
use Rattle.std.proofs.lemmas.Bool.{cases_eq, cases_lt}
use Rattle.std.proofs.lemmas.List.{get_or_append_left, get_or_at}

abbrev pub AllAt : {X : Type 0} → (ℕ → X → Type 0) → List X → Type 0
AllAt {X} P xs = (slot : ℕ) (none : X) → slot < length xs → P slot (get_or xs slot none)

-- one value more
pub all_pushed : {X : Type 0} (P : ℕ → X → Type 0) (xs : List X) (x : X) → AllAt P xs → P (length xs) x
    → AllAt P (xs ++ x ∷ [])
all_pushed P xs x each own slot none low =
    let count : length (xs ++ x ∷ []) ≡ length xs + 1 = length-append xs (x ∷ []) in
    elim (cases_lt slot (length xs)) [
      | inl less ↦ subst (P slot) (sym (get_or_append_left xs (x ∷ []) none slot less)) (each slot none less)
      | inr most ↦
          let is : length xs ≡ slot = omega (arith, low, most, count) in
          subst (P slot) (sym (get_or_at xs x [] none slot is)) (subst (λ k. P k x) is own)
    ]

-- another value at a place
pub all_set : {X : Type 0} (P : ℕ → X → Type 0) (xs : List X) (i : ℕ) (x : X) → AllAt P xs → (i < length xs → P i x)
    → AllAt P (set xs i x)
all_set P xs i x each own slot none low =
    let within : slot < length xs = omega (arith, low, length-set xs i x) in
    elim (cases_eq i slot) [
      | inl same ↦
          let here : i < length xs = omega (arith, within, same) in
          subst (λ k. P k (get_or (set xs i x) k none)) same
          (subst (P i) (sym (get_or-set_same xs i x none here)) (own here))
      | inr other ↦
          subst (P slot) (sym (get_or-set_other xs i slot x none (λ same. other (sym same)))) (each slot none within)
    ]
