-- How places are added.
use Rattle.std.proofs.Common.{◌≡◌, ℕ, zero, suc, List, [], ◌∷◌, ◌++◌, replicate, refl, sym, ap, ◌∙◌}
use Rattle.std.specs.Prelude.{Option, None}
use Rattle.worker_core.specs.BySlot.{Grown}

module _ {P : Type 0} where
  pub grown_none : (places : List (Option P)) → Grown places places
  grown_none places = (0, sym (append_none places)) where
    append_none : (xs : List (Option P)) → xs ++ [] ≡ xs
    append_none [] = refl
    append_none (x ∷ xs) = ap (λ l. x ∷ l) (append_none xs)

  pub grown_same : (places old new : List (Option P)) → Grown places old → new ≡ old → Grown places new
  grown_same places old new grown same = (grown.0, same ∙ grown.1)

  pub grown_more : (places old new : List (Option P)) → Grown places old → new ≡ old ++ None ∷ []
      → Grown places new
  grown_more places old new grown more =
      (suc grown.0, more ∙ ap (λ l. l ++ None ∷ []) grown.1 ∙ one_more places grown.0) where
        pushed : (n : ℕ) → replicate {A = Option P} n None ++ None ∷ [] ≡ replicate (suc n) None
        pushed zero = refl
        pushed (suc n) = ap (λ l. None ∷ l) (pushed n)

        one_more : (xs : List (Option P)) (n : ℕ)
            → (xs ++ replicate n None) ++ None ∷ [] ≡ xs ++ replicate (suc n) None
        one_more [] n = pushed n
        one_more (x ∷ xs) n = ap (λ l. x ∷ l) (one_more xs n)
