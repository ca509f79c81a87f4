use Rattle.std.proofs.Common.{[], List, ℕ, length, get_or, ap, ◌∙◌, arith}
use Rattle.epoch_schedule.proofs.Grown.{value-within}
use Rattle.epoch_schedule.proofs.SlotSets.{some_within}
use Rattle.epoch_schedule.proofs.busy.busy_at.Goals as goal

pub at-requires : goal.at-requires
at-requires c =
    let busy : List (List ℕ) = c.args.busy.now.items in
    let within = some_within busy c.args.slice c.args.at c.requires in
    let same = ap length (c.index-list.ensures ∙ value-within [] c.index-list.result.now busy c.args.slice within) in
    let there = c.requires in
    omega (arith, there, same)

pub returns : goal.returns
returns c =
    let busy : List (List ℕ) = c.args.busy.now.items in
    let within = some_within busy c.args.slice c.args.at c.requires in
    c.at.ensures
    ∙ ap (λ (xs : List ℕ). get_or xs c.args.at 0)
    (c.index-list.ensures ∙ value-within [] c.index-list.result.now busy c.args.slice within)
