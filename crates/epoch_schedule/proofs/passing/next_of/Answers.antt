use Rattle.std.proofs.Common.{rules, ◌≡◌, ◌<◌, ◌≤◌, [], List, ℕ, length, get_or, ◌∙◌}
use Rattle.epoch_schedule.specs.Worlds.{world_of}
use Rattle.epoch_schedule.proofs.Grown.{value-within}
use Rattle.epoch_schedule.proofs.Passes.{found_visits, found_lane, found_all}
use Rattle.epoch_schedule.proofs.passing.next_of.Goals as goal

pub loop-lane-init : goal.loop-lane-init
loop-lane-init c =
    found_visits c.args.pass c.args.setup.now.rooms (world_of c.args.numbers.now) c.args.waits.now c.args.from
    c.lower-next.result (c.lower-next.ensures.from tt) (λ t below. (c.lower-next.ensures.less t below).1)

pub loop-lane-preserved : goal.loop-lane-preserved
loop-lane-preserved c =
    let lanes : List (List ℕ) = c.args.waits.now.lanes.items in
    let lane = c.loop-lane.lane in
    let slots = c.index-set.result.now in
    let within : lane < length lanes = search rules in
    let here : slots ≡ get_or lanes lane [] = c.index-set.ensures ∙ value-within [] slots lanes lane within in
    found_lane c.args.pass c.args.setup.now.rooms (world_of c.args.numbers.now) c.args.waits.now c.args.from lane slots
    here c.loop-lane.next c.lower_in-next.result c.lower_in-next.ensures.from c.lower_in-next.ensures.less
    c.loop-lane.invariant

pub returns-clause-from : goal.returns-clause-from
returns-clause-from c = c.loop-lane.invariant.from_on

pub returns-clause-first : goal.returns-clause-first
returns-clause-first c =
    let lanes : List (List ℕ) = c.args.waits.now.lanes.items in
    let whole : length lanes ≤ c.loop-lane.lane = search rules in
    found_all c.args.pass c.args.setup.now.rooms (world_of c.args.numbers.now) c.args.waits.now c.args.from
    c.loop-lane.next c.loop-lane.lane whole c.loop-lane.invariant
