use Rattle.std.proofs.Common.{rules, ◌≡◌, ◌<◌, ◌≤◌, [], List, ℕ, length, get_or, subst, ap, ◌∙◌, arith}
use Rattle.epoch_schedule.specs.Rosters.{RosterNow, roster_at}
use Rattle.epoch_schedule.specs.Rounds.{turn_of}
use Rattle.epoch_schedule.specs.Worlds.{world_of}
use Rattle.epoch_schedule.proofs.Busying.{roster_of, listed_ordered, turn_past}
use Rattle.epoch_schedule.proofs.Grown.{value-within}
use Rattle.epoch_schedule.proofs.SlotSets.{some_within}
use Rattle.epoch_schedule.proofs.busy.next_half.Goals as goal

pub next_among-requires-clause-ordered : goal.next_among-requires-clause-ordered
next_among-requires-clause-ordered c =
    let world = world_of c.args.numbers.now in
    let slice = c.args.slice in
    let busy : List (List ℕ) = c.args.busy.now.items in
    let list : List ℕ = c.index-list.result.now in
    let within = some_within busy slice 0 c.requires.some in
    let below : slice < length world.controls = search rules in
    listed_ordered world busy slice 0 c.roster.result.now list
    (roster_of world slice c.index-worker.result.now c.roster.result.now c.index-worker.ensures below c.roster.ensures) within
    (c.index-list.ensures ∙ value-within [] list busy slice within) c.requires.busy.0 c.requires.busy.1

pub next_among-requires-clause-some : goal.next_among-requires-clause-some
next_among-requires-clause-some c =
    let busy : List (List ℕ) = c.args.busy.now.items in
    let list : List ℕ = c.index-list.result.now in
    let within = some_within busy c.args.slice 0 c.requires.some in
    let same = ap length (c.index-list.ensures ∙ value-within [] list busy c.args.slice within) in
    let some = c.requires.some in
    omega (arith, some, same)

pub returns-then-slice-len-clause-within : goal.returns-then-slice-len-clause-within
returns-then-slice-len-clause-within c =
    let busy : List (List ℕ) = c.args.busy.now.items in
    let list : List ℕ = c.index-list.result.now in
    let within = some_within busy c.args.slice 0 c.requires.some in
    let same = ap length (c.index-list.ensures ∙ value-within [] list busy c.args.slice within) in
    let below = c.next_among.ensures.within in
    omega (arith, below, same)

pub returns-then-slice-len-clause-first : goal.returns-then-slice-len-clause-first
returns-then-slice-len-clause-first c =
    let world = world_of c.args.numbers.now in
    let slice = c.args.slice in
    let busy : List (List ℕ) = c.args.busy.now.items in
    let list : List ℕ = c.index-list.result.now in
    let within = some_within busy slice 0 c.requires.some in
    let below : slice < length world.controls = search rules in
    let here : list ≡ get_or busy slice [] = c.index-list.ensures ∙ value-within [] list busy slice within in
    let roster_is : c.roster.result.now ≡ roster_at world slice =
    roster_of world slice c.index-worker.result.now c.roster.result.now c.index-worker.ensures below c.roster.ensures in
    subst (λ (xs : List ℕ). (j : ℕ) → j < length xs
    → turn_of (roster_at world slice) (get_or xs c.next_among.result 0) ≤ turn_of (roster_at world slice) (get_or xs j 0))
    here
    (subst (λ (own : RosterNow). (j : ℕ) → j < length list
    → turn_of own (get_or list c.next_among.result 0) ≤ turn_of own (get_or list j 0)) roster_is
    c.next_among.ensures.first)

pub returns-else-slice-len-clause-first : goal.returns-else-slice-len-clause-first
returns-else-slice-len-clause-first c = λ j below.
    turn_past (world_of c.args.numbers.now) c.args.slice _ _ (search rules)
