use Rattle.std.proofs.Common.{rules, ◌≡◌, ◌<◌, ◌≤◌, true, [], List, ℕ, length, ◌∙◌}
use Rattle.epoch_schedule.specs.World.{slot_at}
use Rattle.epoch_schedule.specs.Busy.{is_still}
use Rattle.epoch_schedule.specs.Rosters.{roster_at}
use Rattle.epoch_schedule.specs.Worlds.{world_of}
use Rattle.epoch_schedule.proofs.Busying.{still_busy, roster_of, waking_begins, waking_ordered, waking_more, waking_ends}
use Rattle.epoch_schedule.proofs.Grown.{value-within}
use Rattle.epoch_schedule.proofs.busy.wake.Goals as goal

pub returns-then-is_still : goal.returns-then-is_still
returns-then-is_still c = λ but are.
    let is : is_still c.args.setup.now.rooms.room (slot_at (world_of c.args.numbers.now) c.args.slot) ≡ true =
    search rules in
    still_busy c.args.setup.now.rooms.room but c.args.slot c.args.busy.now.items (world_of c.args.numbers.now) is are

pub loop-slice-init : goal.loop-slice-init
loop-slice-init c =
    waking_begins c.args.setup.now.rooms.room c.requires.0 (world_of c.args.numbers.now) c.args.slot c.args.busy.now.items
    c.requires.1

pub wake_on-requires : goal.wake_on-requires
wake_on-requires c =
    let world = world_of c.args.numbers.now in
    let i = c.loop-slice.slice in
    let lists : List (List ℕ) = c.reach_list.new.busy.items in
    let within : i < length world.controls = search rules in
    let roster_is : c.roster.result.now ≡ roster_at world i =
    roster_of world i c.index-worker.result.now c.roster.result.now c.index-worker.ensures within c.roster.ensures in
    waking_ordered world c.args.slot c.args.busy.now.items c.loop-slice.busy.items lists i c.roster.result.now
    c.index_mut-list.result.now roster_is c.in_ok-reach_list.ensures.same
    (c.index_mut-list.ensures.value
    ∙ value-within [] c.index_mut-list.result.now lists i c.in_ok-reach_list.ensures.within) c.loop-slice.invariant

pub loop-slice-preserved : goal.loop-slice-preserved
loop-slice-preserved c =
    let world = world_of c.args.numbers.now in
    let i = c.loop-slice.slice in
    let lists : List (List ℕ) = c.reach_list.new.busy.items in
    let within : i < length world.controls = search rules in
    let roster_is : c.roster.result.now ≡ roster_at world i =
    roster_of world i c.index-worker.result.now c.roster.result.now c.index-worker.ensures within c.roster.ensures in
    waking_more world c.args.slot c.args.busy.now.items c.loop-slice.busy.items lists i c.roster.result.now
    c.index_mut-list.result.now roster_is c.in_ok-reach_list.ensures.same
    (c.index_mut-list.ensures.value
    ∙ value-within [] c.index_mut-list.result.now lists i c.in_ok-reach_list.ensures.within) c.loop-slice.invariant
    c.wake_on.new.list c.in_ok-reach_list.ensures.within c.in_ok-wake_on.ensures

pub returns : goal.returns
returns c = λ but are.
    let all : length (world_of c.args.numbers.now).controls ≤ c.loop-slice.slice = search rules in
    waking_ends c.args.setup.now.rooms.room but (world_of c.args.numbers.now) c.args.slot c.args.busy.now.items
    c.loop-slice.busy.items c.loop-slice.slice all c.loop-slice.invariant are
