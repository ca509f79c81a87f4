use Rattle.std.proofs.Common.{nat_lt, sym, ap, ◌∙◌, arith}
use Rattle.epoch_schedule.specs.Rosters.{present, place_at}
use Rattle.epoch_schedule.specs.Rounds.{place_held}
use Rattle.epoch_schedule.proofs.Order.{half_there, order_same}
use Rattle.epoch_schedule.proofs.Places.{lacks_place, stands_place}
use Rattle.epoch_schedule.proofs.roster.is_first.Goals as goal

pub returns-in-None : goal.returns-in-None
returns-in-None c =
    let all = lacks_place c.args.halves.now c.args.one c.in-None.ensures.none in
    let few = c.requires.one in
    absurd (omega (arith, all, few))

pub returns-in-None-index_of : goal.returns-in-None-index_of
returns-in-None-index_of c =
    let all = lacks_place c.args.halves.now c.args.other c.in-None-index_of.ensures.none in
    let few = c.requires.other in
    absurd (omega (arith, all, few))

pub returns-in-Some-index_of : goal.returns-in-Some-index_of
returns-in-Some-index_of c =
    let halves = c.args.halves.now in
    let own = c.in-Some.ensures.found in
    let another = c.in-Some-index_of.ensures.found in
    order_same halves c.in-Some.own c.in-Some-index_of.another (half_there halves _ own.half own.here)
    (half_there halves _ another.half another.here)
    ∙ ap (λ p. nat_lt p (place_at halves c.in-Some-index_of.another)) (sym (stands_place halves c.args.one c.in-Some.own own))
    ∙ ap (nat_lt (place_held c.args.one (present halves)))
    (sym (stands_place halves c.args.other c.in-Some-index_of.another another))
