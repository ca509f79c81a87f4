-- Items slot by slot.
use Rattle.std.proofs.Common.{◌≡◌, ◌≢◌, ℕ, zero, suc, ◌+◌, ◌-◌, ◌==◌, ◌<◌, ◌≤◌, Bool, true, false, List, [], ◌∷◌, ◌++◌, cond, refl, sym, ap, subst, ◌∙◌, inl, inr, arith, append-nil}
use Rattle.std.specs.List.{flat_map}
use Rattle.std.proofs.lemmas.Bool.{cases_eq, cases_lt, eq-eqb, eqb-true, ne_eqb}
use Rattle.std.proofs.lemmas.List.Elements.{filter-append}
use Rattle.lawful_run.specs.Telling.{counted}
use Rattle.audit_core.specs.Agreeing.{of_slot, AreBySlot, AgreeBySlot}

nil_when : {X : Type 0} (test : Bool) → let none : List X = [] in none ≡ cond test none none
nil_when true = refl
nil_when false = refl

module _ {X : Type 0} (whose : X → ℕ) where
  -- those of a slot among those of a slot
  one_of_both : (a b test : Bool) (s : ℕ) (x : X) (some all : List X) → (whose x == s) ≡ b → (a ≡ true → b ≡ test)
      → (a ≡ false → test ≡ true → b ≡ false) → of_slot whose s some ≡ cond test all []
      → of_slot whose s (cond a (x ∷ some) some) ≡ cond test (cond b (x ∷ all) all) []
  one_of_both true true true s x some all is one two same =
      ap (λ u. cond u (x ∷ of_slot whose s some) (of_slot whose s some)) is ∙ ap (λ r. x ∷ r) same
  one_of_both true true false s x some all is one two same = let no = one refl in cc
  one_of_both true false true s x some all is one two same = let no = one refl in cc
  one_of_both true false false s x some all is one two same =
      ap (λ u. cond u (x ∷ of_slot whose s some) (of_slot whose s some)) is ∙ same
  one_of_both false true true s x some all is one two same = let no = two refl refl in cc
  one_of_both false true false s x some all is one two same = same
  one_of_both false false true s x some all is one two same = same
  one_of_both false false false s x some all is one two same = same

  of_both : (s t : ℕ) (xs : List X) → of_slot whose s (of_slot whose t xs) ≡ cond (t == s) (of_slot whose s xs) []
  of_both s t [] = nil_when (t == s)
  of_both s t (x ∷ xs) =
      one_of_both (whose x == t) (whose x == s) (t == s) s x (of_slot whose t xs) (of_slot whose s xs) refl
      (λ of_t. ap (λ k. k == s) (eqb-true (whose x) t of_t))
      (λ other same. ne_eqb (whose x) s (λ of_s.
      let here : (whose x == t) ≡ true = eq-eqb (whose x) t (of_s ∙ sym (eqb-true t s same)) in
      let no : true ≡ false = sym here ∙ other in cc))
      (of_both s t xs)

  -- those of a slot among those of some slots, one slot behind another
  none_there : (s first n : ℕ) (xs : List X) → ((t : ℕ) → first ≤ t → t < first + n → t ≢ s)
      → of_slot whose s (flat_map (λ t. of_slot whose t xs) (counted first n)) ≡ []
  none_there s first zero xs others = refl
  none_there s first (suc n) xs others =
      filter-append (λ x. whose x == s) (of_slot whose first xs)
      (flat_map (λ t. of_slot whose t xs) (counted (first + 1) n))
      ∙ (λ i. (of_both s first xs ∙ ap (λ test. cond test (of_slot whose s xs) [])
      (ne_eqb first s (others first (omega arith) (omega arith)))) i
      ++ none_there s (first + 1) n xs (λ t low high. others t (omega (arith, low)) (omega (arith, high))) i)

  all_there : (s first n : ℕ) (xs : List X) → first ≤ s → s < first + n
      → of_slot whose s (flat_map (λ t. of_slot whose t xs) (counted first n)) ≡ of_slot whose s xs
  all_there s first zero xs low high = absurd (omega (arith, low, high))
  all_there s first (suc n) xs low high =
      let parts = filter-append (λ x. whose x == s) (of_slot whose first xs)
      (flat_map (λ t. of_slot whose t xs) (counted (first + 1) n)) in
      let own = of_both s first xs in
      elim (cases_eq first s) [
        | inl same ↦ parts
            ∙ (λ i. (own ∙ ap (λ test. cond test (of_slot whose s xs) []) (eq-eqb first s same)) i
            ++ none_there s (first + 1) n xs (λ t above high is. omega (arith, above, is, same)) i)
            ∙ append-nil (of_slot whose s xs)
        | inr other ↦ parts
            ∙ (λ i. (own ∙ ap (λ test. cond test (of_slot whose s xs) []) (ne_eqb first s other)) i
            ++ all_there s (first + 1) n xs (omega (arith, low, other)) (omega (arith, high)) i)
      ]

  -- beyond so many slots nothing stands
  pub beyond : (slots : ℕ) (made : List X) → AreBySlot whose slots made → (later : ℕ)
      → of_slot whose (slots + later) made ≡ []
  beyond slots made by later =
      ap (of_slot whose (slots + later)) by
      ∙ none_there (slots + later) 0 slots made (λ t low high is. omega (arith, high, is))

  pub agree_from : (slots : ℕ) (told made : List X) → AreBySlot whose slots made
      → ((later : ℕ) → of_slot whose (slots + later) told ≡ [])
      → flat_map (λ t. of_slot whose t told) (counted 0 slots) ≡ made → AgreeBySlot whose told made
  agree_from slots told made by none flat s = elim (cases_lt s slots) [
    | inl below ↦ sym (all_there s 0 slots told (omega arith) (omega (arith, below))) ∙ ap (of_slot whose s) flat
    | inr past ↦
        let at : slots + (s - slots) ≡ s = omega (arith, past) in
        subst (λ k. of_slot whose k told ≡ of_slot whose k made) at
        (none (s - slots) ∙ sym (beyond slots made by (s - slots)))
  ]

  pub flat_from : (slots : ℕ) (told made : List X) → AreBySlot whose slots made → AgreeBySlot whose told made
      → flat_map (λ t. of_slot whose t told) (counted 0 slots) ≡ made
  flat_from slots told made by agree =
      ap (λ (f : ℕ → List X). flat_map f (counted 0 slots)) (λ i t. agree t i) ∙ sym by
