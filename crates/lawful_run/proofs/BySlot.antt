-- What is told of one slot, out of what stands there by slot.
use Rattle.std.proofs.Common.{◌≡◌, ◌≢◌, ℕ, zero, suc, ◌+◌, ◌<◌, ◌≤◌, List, [], ◌++◌, ap, ◌∙◌, inl, inr, arith, append-nil}
use Rattle.std.specs.List.{flat_map}
use Rattle.std.proofs.lemmas.Bool.{cases_eq}
use Rattle.lawful_run.specs.Telling.{counted}

module _ {X Y : Type 0} (told : List X → List Y) (nothing : told [] ≡ [])
    (append : (xs ys : List X) → told (xs ++ ys) ≡ told xs ++ told ys) (of : ℕ → List X) where
  none_of : (first n : ℕ) → ((s : ℕ) → first ≤ s → told (of s) ≡ []) → told (flat_map of (counted first n)) ≡ []
  none_of first zero none = nothing
  none_of first (suc n) none =
      append (of first) (flat_map of (counted (first + 1) n))
      ∙ ap (λ xs. xs ++ told (flat_map of (counted (first + 1) n))) (none first (omega arith))
      ∙ none_of (first + 1) n (λ s above. none s (omega (arith, above)))

  pub one_of : (slot first n : ℕ) → first ≤ slot → slot < first + n → ((s : ℕ) → s ≢ slot → told (of s) ≡ [])
      → told (flat_map of (counted first n)) ≡ told (of slot)
  one_of slot first zero above within others = absurd (omega (arith, above, within))
  one_of slot first (suc n) above within others = elim (cases_eq first slot) [
    | inl same ↦
        append (of first) (flat_map of (counted (first + 1) n))
        ∙ ap (λ xs. told (of first) ++ xs) (none_of (first + 1) n
        (λ s more. others s (λ is. omega (arith, is, more, same))))
        ∙ append-nil (told (of first))
        ∙ ap (λ s. told (of s)) same
    | inr other ↦
        append (of first) (flat_map of (counted (first + 1) n))
        ∙ ap (λ xs. xs ++ told (flat_map of (counted (first + 1) n))) (others first other)
        ∙ one_of slot (first + 1) n (omega (arith, above, other)) (omega (arith, within)) others
  ]
