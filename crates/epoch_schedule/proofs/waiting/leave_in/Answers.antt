use Rattle.std.proofs.Common.{rules, ◌≡◌, ◌<◌, [], List, ℕ, length, get_or, ap, ◌∙◌}
use Rattle.epoch_schedule.specs.Waiting.{is_in}
use Rattle.epoch_schedule.proofs.Grown.{value-within}
use Rattle.epoch_schedule.proofs.SlotSets.{leaves_lane}
use Rattle.epoch_schedule.proofs.waiting.leave_in.Goals as goal

pub returns-then-lane-len : goal.returns-then-lane-len
returns-then-lane-len c = λ other s differs stands. stands

pub returns : goal.returns
returns c = λ other s differs stands.
    let lanes : List (List ℕ) = c.args.lanes.now.items in
    let old = c.index_mut-set.result.now in
    let within : c.args.lane < length lanes = search rules in
    let is : old ≡ get_or lanes c.args.lane [] =
    c.index_mut-set.ensures.value ∙ value-within [] old lanes c.args.lane within in
    ap (λ (xs : List ℕ). is_in xs s) (c.trim.ensures other)
    ∙ leaves_lane lanes c.args.lane c.args.slot old c.remove.new.self within is c.remove.ensures other s differs stands
