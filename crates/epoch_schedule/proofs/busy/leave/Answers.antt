use Rattle.std.proofs.Common.{rules, ℕ, ◌<◌, [], List, length, ◌∙◌}
use Rattle.epoch_schedule.specs.Worlds.{world_of}
use Rattle.epoch_schedule.proofs.Busying.{roster_of, past_lists, past_controls, listed_ordered, leaves_list}
use Rattle.epoch_schedule.proofs.Grown.{value-within}
use Rattle.epoch_schedule.proofs.busy.leave.Goals as goal

pub returns-then-slice-len : goal.returns-then-slice-len
returns-then-slice-len c =
    past_lists c.requires.0 (world_of c.args.numbers.now) c.args.busy.now.items c.args.slice c.args.slot (search rules)
    c.requires.1

pub returns-then-slice-len-2 : goal.returns-then-slice-len-2
returns-then-slice-len-2 c =
    past_controls c.requires.0 (world_of c.args.numbers.now) c.args.busy.now.items c.args.slice c.args.slot (search rules)
    c.requires.1

pub leave_on-requires : goal.leave_on-requires
leave_on-requires c =
    let world = world_of c.args.numbers.now in
    let slice = c.args.slice in
    let busy : List (List ℕ) = c.args.busy.now.items in
    let within : slice < length busy = search rules in
    let below : slice < length world.controls = search rules in
    listed_ordered world busy slice c.args.slot c.roster.result.now c.index_mut-list.result.now
    (roster_of world slice c.index-worker.result.now c.roster.result.now c.index-worker.ensures below c.roster.ensures) within
    (c.index_mut-list.ensures.value ∙ value-within [] c.index_mut-list.result.now busy slice within) c.requires.0
    c.requires.1

pub returns : goal.returns
returns c =
    let world = world_of c.args.numbers.now in
    let slice = c.args.slice in
    let busy : List (List ℕ) = c.args.busy.now.items in
    let within : slice < length busy = search rules in
    let below : slice < length world.controls = search rules in
    leaves_list world busy slice c.args.slot c.roster.result.now c.index_mut-list.result.now
    (roster_of world slice c.index-worker.result.now c.roster.result.now c.index-worker.ensures below c.roster.ensures) within
    (c.index_mut-list.ensures.value ∙ value-within [] c.index_mut-list.result.now busy slice within)
    c.leave_on.new.list c.leave_on.ensures
