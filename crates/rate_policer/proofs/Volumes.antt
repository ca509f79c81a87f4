-- The volume of a list.
use Rattle.std.proofs.Common.{◌≡◌, ◌+◌, List, [], ◌∷◌, ◌++◌, ◌∙◌, add-zero}
use Rattle.std.proofs.lemmas.List.Sums.{sum_by-cons, sum_by_push}
use Rattle.rate_policer.specs.declared.cost.Cost.{Cost}
use Rattle.rate_policer.specs.Conforming.{volume}

pub volume-cons : (cost : Cost) (costs : List Cost) → volume (cost ∷ costs) ≡ cost.millibits + volume costs
volume-cons cost costs = sum_by-cons (λ (c : Cost). c.millibits) cost costs

pub volume-one : (cost : Cost) → volume (cost ∷ []) ≡ cost.millibits
volume-one cost = volume-cons cost [] ∙ add-zero cost.millibits

pub volume-push : (costs : List Cost) (cost : Cost) → volume (costs ++ cost ∷ []) ≡ volume costs + cost.millibits
volume-push costs cost = sum_by_push (λ (c : Cost). c.millibits) costs cost
