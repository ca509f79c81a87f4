-- What is made slot by slot stands by slot.
use Rattle.std.proofs.Common.{◌≡◌, ◌≢◌, ℕ, zero, suc, ◌+◌, ◌==◌, ◌<◌, ◌≤◌, List, [], ◌∷◌, ◌++◌, cond, refl, sym, ap, ◌∙◌, inl, inr, arith, append-nil}
use Rattle.std.specs.List.{All, flat_map}
use Rattle.std.proofs.lemmas.Bool.{cases_eq, eq-eqb, ne_eqb}
use Rattle.std.proofs.lemmas.List.Elements.{All-append, All-head, All-nil, All-tail, All-weaker, filter-append}
use Rattle.lawful_run.specs.Run.{by_slot}
use Rattle.lawful_run.specs.Telling.{counted}
use Rattle.audit_core.specs.Agreeing.{of_slot, AreBySlot}

module _ {X : Type 0} (whose : X → ℕ) where
  own_all : (s : ℕ) (xs : List X) → All (λ x. whose x ≡ s) xs → of_slot whose s xs ≡ xs
  own_all s [] all = refl
  own_all s (x ∷ xs) all =
      ap (λ test. cond test (x ∷ of_slot whose s xs) (of_slot whose s xs))
      (eq-eqb (whose x) s (All-head (λ y. whose y ≡ s) x xs all))
      ∙ ap (λ rest. x ∷ rest) (own_all s xs (All-tail (λ y. whose y ≡ s) x xs all))

  other_none : (s t : ℕ) (xs : List X) → s ≢ t → All (λ x. whose x ≡ s) xs → of_slot whose t xs ≡ []
  other_none s t [] differ all = refl
  other_none s t (x ∷ xs) differ all =
      ap (λ test. cond test (x ∷ of_slot whose t xs) (of_slot whose t xs))
      (ne_eqb (whose x) t (λ same. differ (sym (All-head (λ y. whose y ≡ s) x xs all) ∙ same)))
      ∙ other_none s t xs differ (All-tail (λ y. whose y ≡ s) x xs all)

  module _ (has : ℕ → List X) (own : (s : ℕ) → All (λ x. whose x ≡ s) (has s)) where
    not_among : (t first n : ℕ) → t < first → of_slot whose t (flat_map has (counted first n)) ≡ []
    not_among t first zero below = refl
    not_among t first (suc n) below =
        filter-append (λ x. whose x == t) (has first) (flat_map has (counted (first + 1) n))
        ∙ (λ i. other_none first t (has first) (λ same. omega (arith, same, below)) (own first) i
        ++ not_among t (first + 1) n (omega (arith, below)) i)

    among : (t first n : ℕ) → first ≤ t → t < first + n → of_slot whose t (flat_map has (counted first n)) ≡ has t
    among t first zero low high = absurd (omega (arith, low, high))
    among t first (suc n) low high = elim (cases_eq first t) [
      | inl same ↦
          filter-append (λ x. whose x == t) (has first) (flat_map has (counted (first + 1) n))
          ∙ (λ i. ap (λ s. of_slot whose t (has s)) same i ++ not_among t (first + 1) n (omega (arith, same)) i)
          ∙ append-nil (of_slot whose t (has t)) ∙ own_all t (has t) (own t)
      | inr other ↦
          filter-append (λ x. whose x == t) (has first) (flat_map has (counted (first + 1) n))
          ∙ (λ i. other_none first t (has first) other (own first) i
          ++ among t (first + 1) n (omega (arith, low, other)) (omega (arith, high)) i)
    ]

    same_flat : (f : ℕ → List X) (first n : ℕ) → ((s : ℕ) → first ≤ s → s < first + n → f s ≡ has s)
        → flat_map f (counted first n) ≡ flat_map has (counted first n)
    same_flat f first zero same = refl
    same_flat f first (suc n) same =
        (λ i. same first (omega arith) (omega arith) i
        ++ same_flat f (first + 1) n (λ s low high. same s (omega (arith, low)) (omega (arith, high))) i)

    -- what is made slot by slot stands so
    pub stands_by_slot : (slots : ℕ) (xs : List X) → xs ≡ by_slot slots has → AreBySlot whose slots xs
    stands_by_slot slots xs is =
        is ∙ sym (same_flat (λ s. of_slot whose s xs) 0 slots (λ s low high.
        ap (of_slot whose s) is ∙ among s 0 slots low high))

    all_below_from : (first n most : ℕ) → first + n ≤ most → All (λ x. whose x < most) (flat_map has (counted first n))
    all_below_from first zero most low = All-nil (λ x. whose x < most)
    all_below_from first (suc n) most low =
        All-append (λ x. whose x < most) (has first) (flat_map has (counted (first + 1) n))
        (All-weaker (λ x. whose x ≡ first) (λ x. whose x < most) (λ x is. omega (arith, is, low)) (has first) (own first))
        (all_below_from (first + 1) n most (omega (arith, low)))

    -- and below so many slots
    pub all_below : (slots : ℕ) → All (λ x. whose x < slots) (by_slot slots has)
    all_below slots = all_below_from 0 slots slots (omega arith)
