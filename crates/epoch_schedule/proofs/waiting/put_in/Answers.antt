use Rattle.std.proofs.Common.{◌≡◌, [], get_or, ◌∙◌}
use Rattle.epoch_schedule.proofs.Grown.{value-within}
use Rattle.epoch_schedule.proofs.Kept.{on_ok}
use Rattle.epoch_schedule.proofs.SlotSets.{waits_own, waits_more}
use Rattle.epoch_schedule.proofs.waiting.put_in.Goals as goal

pub returns-clause-own : goal.returns-clause-own
returns-clause-own c =
    let before = c.args.lanes.now.items in
    let lanes = c.reach_lane.new.lanes.items in
    let old = c.index_mut-set.result.now in
    let within = c.in_ok-reach_lane.ensures.within in
    let is : old ≡ get_or lanes c.args.lane [] =
    c.index_mut-set.ensures.value ∙ value-within [] old lanes c.args.lane within in
    on_ok c.insert.result (λ slots.
    waits_own before lanes c.args.lane c.args.slot old c.insert.new.self within c.in_ok-reach_lane.ensures.same is slots)
    c.insert.ensures

pub returns-clause-more : goal.returns-clause-more
returns-clause-more c =
    let before = c.args.lanes.now.items in
    let lanes = c.reach_lane.new.lanes.items in
    let old = c.index_mut-set.result.now in
    let within = c.in_ok-reach_lane.ensures.within in
    let is : old ≡ get_or lanes c.args.lane [] =
    c.index_mut-set.ensures.value ∙ value-within [] old lanes c.args.lane within in
    on_ok c.insert.result (λ slots.
    waits_more before lanes c.args.lane c.args.slot old c.insert.new.self within c.in_ok-reach_lane.ensures.same is slots)
    c.insert.ensures
