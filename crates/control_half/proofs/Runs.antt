-- Consecutive versions stay so when the next one joins, and when the first one leaves.
use Rattle.std.proofs.Common.{◌≡◌, ℕ, ◌+◌, ◌<◌, length, arith, List, [], ◌∷◌, ◌++◌, sym, ap, ◌∙◌, ◌⊎◌, inl, inr, ⊎_elim}
use Rattle.std.specs.List.{remove}
use Rattle.control_half.specs.Consecutive.{AreConsecutive, IsNext}

module _ {V : Type 0} where
  -- two side by side in a list that got one more are the last ones, or stood there before
  last_or_before : (versions before : List V) (v one next : V) (after : List V)
      → versions ++ v ∷ [] ≡ before ++ one ∷ next ∷ after
      → ((versions ≡ before ++ one ∷ []) × (v ≡ next)) ⊎ ((rest : List V) × (versions ≡ before ++ one ∷ next ∷ rest))
  last_or_before [] [] v one next after e = absurd (let h : [] ≡ next ∷ after = cc in let no : ⊥ = cc in no)
  last_or_before (w ∷ []) [] v one next after e = inl (cc, cc)
  last_or_before (w ∷ x ∷ xs) [] v one next after e = inr (xs, cc)
  last_or_before [] (b ∷ []) v one next after e = absurd (let h : [] ≡ one ∷ next ∷ after = cc in let no : ⊥ = cc in no)
  last_or_before [] (b ∷ c ∷ cs) v one next after e =
      absurd (let h : [] ≡ c ∷ (cs ++ one ∷ next ∷ after) = cc in let no : ⊥ = cc in no)
  last_or_before (w ∷ ws) (b ∷ bs) v one next after e =
      let head : w ≡ b = cc in let tail : ws ++ v ∷ [] ≡ bs ++ one ∷ next ∷ after = cc in
      ⊎_elim (λ (last : (ws ≡ bs ++ one ∷ []) × (v ≡ next)). inl ((let l = last.0 in cc), last.1))
      (λ (there : (rest : List V) × (ws ≡ bs ++ one ∷ next ∷ rest)). inr (there.0, let t = there.1 in cc))
      (last_or_before ws bs v one next after tail)

  last_same : (xs ys : List V) (x y : V) → xs ++ x ∷ [] ≡ ys ++ y ∷ [] → x ≡ y
  last_same [] [] x y e = cc
  last_same [] (b ∷ []) x y e = absurd (let h : [] ≡ y ∷ [] = cc in let no : ⊥ = cc in no)
  last_same [] (b ∷ c ∷ cs) x y e = absurd (let h : [] ≡ c ∷ (cs ++ y ∷ []) = cc in let no : ⊥ = cc in no)
  last_same (w ∷ []) [] x y e = absurd (let h : x ∷ [] ≡ [] = cc in let no : ⊥ = cc in no)
  last_same (w ∷ v ∷ ws) [] x y e = absurd (let h : v ∷ (ws ++ x ∷ []) ≡ [] = cc in let no : ⊥ = cc in no)
  last_same (w ∷ ws) (b ∷ bs) x y e = last_same ws bs x y (let h : ws ++ x ∷ [] ≡ bs ++ y ∷ [] = cc in h)

module _ {V : Type 0} (number : V → ℕ) where
  pub consecutive_more : (versions : List V) (v : V) → AreConsecutive number versions → IsNext number versions v
      → AreConsecutive number (versions ++ v ∷ [])
  consecutive_more versions v run is_next before one next after e =
      ⊎_elim (λ (last : (versions ≡ before ++ one ∷ []) × (v ≡ next)). sym (ap number last.1)
      ∙ is_next before one last.0)
      (λ (there : (rest : List V) × (versions ≡ before ++ one ∷ next ∷ rest)). run before one next there.0 there.1)
      (last_or_before versions before v one next after e)

  pub consecutive_rest : (versions : List V) → 0 < length versions → AreConsecutive number versions
      → AreConsecutive number (remove versions 0)
  consecutive_rest [] some run before one next after e = absurd (omega arith)
  consecutive_rest (first ∷ rest) some run before one next after e =
      run (first ∷ before) one next after (ap (λ l. first ∷ l) e)

  -- what a caller shows of the version that it adds behind this one
  pub next_after : (versions : List V) (last next : V) → number next ≡ number last + 1
      → IsNext number (versions ++ last ∷ []) next
  next_after versions last next is before other e = is ∙ ap (λ v. number v + 1) (last_same versions before last other e)
