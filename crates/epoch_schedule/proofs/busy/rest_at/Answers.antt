use Rattle.std.proofs.Common.{rules, ◌≡◌, ◌<◌, true, [], List, ℕ, length, get_or, subst, sym, ap, ◌∙◌, arith}
use Rattle.epoch_schedule.specs.World.{slot_at}
use Rattle.epoch_schedule.specs.Busy.{is_still}
use Rattle.epoch_schedule.specs.Worlds.{world_of}
use Rattle.epoch_schedule.proofs.Busied.{at}
use Rattle.epoch_schedule.proofs.Busying.{rests_busy, rests_fewer}
use Rattle.epoch_schedule.proofs.Grown.{value-within}
use Rattle.epoch_schedule.proofs.SlotSets.{some_within}
use Rattle.epoch_schedule.proofs.busy.rest_at.Goals as goal

pub remove-requires : goal.remove-requires
remove-requires c =
    let busy : List (List ℕ) = c.args.busy.now.items in
    let list : List ℕ = c.index_mut-list.result.now in
    let within = some_within busy c.args.slice c.args.at c.requires.within in
    let same = ap length (c.index_mut-list.ensures.value ∙ value-within [] list busy c.args.slice within) in
    let there = c.requires.within in
    omega (arith, there, same)

pub returns-clause-busy : goal.returns-clause-busy
returns-clause-busy c =
    let room = c.args.setup.now.rooms.room in
    let world = world_of c.args.numbers.now in
    let busy : List (List ℕ) = c.args.busy.now.items in
    let list : List ℕ = c.index_mut-list.result.now in
    let within = some_within busy c.args.slice c.args.at c.requires.within in
    let here : list ≡ get_or busy c.args.slice [] =
    c.index_mut-list.ensures.value ∙ value-within [] list busy c.args.slice within in
    let same = ap length here in
    let below = c.requires.within in
    let there : c.args.at < length list = omega (arith, below, same) in
    let own : c.args.slot ≡ at list c.args.at =
    c.requires.own ∙ ap (λ (xs : List ℕ). get_or xs c.args.at 0) (sym here) in
    let still : is_still room (slot_at world c.args.slot) ≡ true = search rules in
    rests_busy room world busy c.args.slice c.args.at list _ within here there c.remove.ensures c.requires.busy
    (subst (λ t. is_still room (slot_at world t) ≡ true) own still)

pub returns-clause-fewer : goal.returns-clause-fewer
returns-clause-fewer c = λ is.
    let busy : List (List ℕ) = c.args.busy.now.items in
    let list : List ℕ = c.index_mut-list.result.now in
    let within = some_within busy c.args.slice c.args.at c.requires.within in
    let here : list ≡ get_or busy c.args.slice [] =
    c.index_mut-list.ensures.value ∙ value-within [] list busy c.args.slice within in
    let same = ap length here in
    let below = c.requires.within in
    let there : c.args.at < length list = omega (arith, below, same) in
    rests_fewer c.args.setup.now.rooms.room (world_of c.args.numbers.now) busy c.args.slice c.args.at list _ within here
    there c.remove.ensures
