-- There are at most as many bearers as indices.
use Rattle.std.proofs.Common.{ℕ, ◌+◌, ◌≤◌, List, [], ◌∷◌, length, arith}
use Rattle.std.specs.List.{AllByRecursion}
use Rattle.bearer_state.specs.declared.bearer.Bearer.{Bearer}
use Rattle.bearer_state.specs.Bearer.{IsBearer, IsBefore, EachPair, AreBearers, index_of}
use Rattle.bearer_state.proofs.BearerLemmas.{each_implied}

few_from : (low : ℕ) (bearers : List Bearer) → low ≤ 11 → AllByRecursion (λ (b : Bearer). low ≤ index_of b) bearers
    → AllByRecursion IsBearer bearers
    → EachPair IsBefore bearers → low + length bearers ≤ 11
few_from low [] fits above each apart = omega arith
few_from low (b ∷ bs) fits above each apart =
    let here : low ≤ index_of b = above.0 in
    let most : index_of b ≤ 10 = each.0.index in
    let next : low + 1 ≤ 11 = omega arith in
    let higher : AllByRecursion (λ (c : Bearer). low + 1 ≤ index_of c) bs =
    each_implied (IsBefore b) (λ (c : Bearer). low + 1 ≤ index_of c)
    (λ c before. omega (arith, before.indices_rise)) bs apart.0 in
    omega (arith, few_from (low + 1) bs next higher each.1 apart.1)

all_above : (bearers : List Bearer) → AllByRecursion (λ (b : Bearer). 0 ≤ index_of b) bearers
all_above [] = tt
all_above (b ∷ bs) = (omega arith, all_above bs)

pub few_bearers : (bearers : List Bearer) → AreBearers bearers → length bearers ≤ 11
few_bearers bearers are = omega (arith, few_from 0 bearers (omega arith) (all_above bearers) are.each are.apart)
