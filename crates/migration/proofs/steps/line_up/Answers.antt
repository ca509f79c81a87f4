use Rattle.std.proofs.Common.{rules, ◌∙◌, reverse, sym, ap, subst}
use Rattle.std.specs.List.Sorted.{IsNonDecreasing}
use Rattle.std.proofs.lemmas.List.{reverse-reverse}
use Rattle.std.proofs.lemmas.List.Sorted.{IsNonDecreasingBy-from_sort_by_key, sum_by-IsPermutation}
use Rattle.migration.proofs.steps.line_up.Goals as goal

pub returns-clause-all : goal.returns-clause-all
returns-clause-all c = λ w.
    sum_by-IsPermutation w _ _ c.reverse.ensures.permutation
    ∙ sum_by-IsPermutation w _ _ c.sort_unstable_by_key.ensures.permutation ∙ c.pour.ensures.all w

pub returns-clause-rising : goal.returns-clause-rising
returns-clause-rising c =
    subst IsNonDecreasing (sym (ap reverse c.reverse.ensures.items ∙ reverse-reverse _))
    (IsNonDecreasingBy-from_sort_by_key (λ x. x) _ c.sort_unstable_by_key.ensures.sorted (λ a r q k. search rules))
