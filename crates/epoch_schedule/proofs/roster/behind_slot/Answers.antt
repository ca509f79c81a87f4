use Rattle.std.proofs.Common.{length, arith}
use Rattle.epoch_schedule.specs.Rosters.{present}
use Rattle.epoch_schedule.specs.Rounds.{place_held}
use Rattle.epoch_schedule.proofs.Places.{lacks_place, stands_place, stands_some, half_within, none_next}
use Rattle.epoch_schedule.proofs.roster.behind_slot.Goals as goal

pub returns-in-None-clause-place : goal.returns-in-None-clause-place
returns-in-None-clause-place c =
    let halves = c.args.halves.now in
    let all = lacks_place halves c.args.slot c.in-None.ensures.none in
    none_next (place_held c.args.slot (present halves)) (length (present halves)) (omega (arith, all))

pub settle_behind-requires : goal.settle_behind-requires
settle_behind-requires c within = stands_some c.args.halves.now c.args.slot c.in-Some.at c.in-Some.ensures.found

pub returns-in-Some-clause-place : goal.returns-in-Some-clause-place
returns-in-Some-clause-place c =
    let halves = c.args.halves.now in
    let stands = c.in-Some.ensures.found in
    let below = half_within halves c.in-Some.at stands.half stands.here in
    c.settle_behind.ensures.place (place_held c.args.slot (present halves))
    (λ within. stands_place halves c.args.slot c.in-Some.at stands) (λ past. absurd (omega (arith, below, past)))
