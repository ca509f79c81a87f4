-- What policed lists are, and what passes in a window of one.
use Rattle.std.proofs.Common.{◌≡◌, ℕ, ◌+◌, ◌-◌, ◌*◌, ◌≤◌, ◌⊎◌, inl, inr, List, [], ◌∷◌, ◌++◌, length, All, refl, ap, sym, subst, append_assoc, length-append, arith}
use Rattle.std.proofs.Math.Nat.{mul-le-mul_left}
use Rattle.rate_policer.specs.declared.cost.Cost.{Cost}
use Rattle.rate_policer.specs.Conforming.{burst, volume, Conforms, ArePoliced, PolicedListsGrow, NoTimePassesMore}
use Rattle.rate_policer.proofs.Splits.{AtEnd, Within, split_push, All-split, ends}
use Rattle.rate_policer.proofs.Volumes.{volume-one, volume-push}

pub policed_none : (rate : ℕ) → ArePoliced rate []
policed_none rate before after cost e = omega (arith, ap length e, length-append before (cost ∷ after))

conforms_split : (rate : ℕ) (passed before after : List Cost) (last cost : Cost) → ArePoliced rate passed
    → Conforms rate passed last
    → AtEnd passed before after cost last ⊎ Within passed before after cost last → Conforms rate before cost
conforms_split rate passed before after last cost policed conforms (inl end) =
    subst (λ (c : Cost). Conforms rate before c) end.is
    (subst (λ (xs : List Cost). Conforms rate xs last) end.same conforms)
conforms_split rate passed before after last cost policed conforms (inr inner) =
    policed before inner.rest cost inner.split

pub policed_grow : PolicedListsGrow
policed_grow rate passed last policed conforms before after cost e =
    conforms_split rate passed before after last cost policed conforms (split_push passed before after cost last e)

-- a policed list with this window, of costs from one moment to another
record Passes (rate : ℕ) (before window after : List Cost) (from to : ℕ) : Type 0 where
  policed : ArePoliced rate ((before ++ window) ++ after)
  timed : All (λ cost. (from ≤ cost.at) × (cost.at ≤ to)) window

volume_timed : (rate : ℕ) (before prefix after : List Cost) (last : Cost) (from to : ℕ)
    → Passes rate before (prefix ++ last ∷ []) after from to
    → volume (prefix ++ last ∷ []) ≤ burst rate + rate * (to - from)
volume_timed rate before [] after last from to passes =
    let conforms = passes.policed before after last (append_assoc before (last ∷ []) after) in
    omega (arith, conforms.alone, volume-one last)
volume_timed rate before (first ∷ between) after last from to passes =
    let window = first ∷ between ++ last ∷ [] in
    let split : (before ++ (first ∷ between ++ last ∷ [])) ++ after ≡ (before ++ first ∷ between) ++ last ∷ after =
    simp append_assoc in
    let since = (passes.policed (before ++ first ∷ between) after last split).since before between first refl in
    let start = All-split (λ (c : Cost). (from ≤ c.at) × (c.at ≤ to)) window [] (between ++ last ∷ []) first refl
    passes.timed in
    let end = All-split (λ (c : Cost). (from ≤ c.at) × (c.at ≤ to)) window
    (first ∷ between) [] last refl passes.timed in
    let within : last.at - first.at ≤ to - from = omega (arith, start.0, end.1) in
    omega (arith, since, volume-push (first ∷ between) last, mul-le-mul_left rate within)

pub no_time_passes_more : NoTimePassesMore
no_time_passes_more rate passed before [] after from to policed e timed = omega arith
no_time_passes_more rate passed before (first ∷ rest) after from to policed e timed =
    let window = ends first rest in
    let passes : Passes rate before (first ∷ rest) after from to
    = record { policed = subst (ArePoliced rate) e policed; timed = timed } in
    subst (λ (costs : List Cost). volume costs ≤ burst rate + rate * (to - from)) (sym window.is)
    (volume_timed rate before window.prefix after window.last from to
    (subst (λ (costs : List Cost). Passes rate before costs after from to) window.is passes))
