use Rattle.std.proofs.Common.{nat_lt, sym, ap, ◌∙◌, arith}
use Rattle.epoch_schedule.specs.Rosters.{place_at}
use Rattle.epoch_schedule.proofs.Order.{half_there, order_next}
use Rattle.epoch_schedule.proofs.Places.{lacks_place, stands_place}
use Rattle.epoch_schedule.proofs.roster.stands_before.Goals as goal

pub returns-in-None : goal.returns-in-None
returns-in-None c =
    let all = lacks_place c.args.halves.now c.args.slot c.in-None.ensures.none in
    let few = c.requires.there in
    absurd (omega (arith, all, few))

pub returns-in-Some : goal.returns-in-Some
returns-in-Some c =
    let halves = c.args.halves.now in
    let own = c.in-Some.ensures.found in
    order_next halves c.in-Some.own c.args.next (half_there halves _ own.half own.here)
    ∙ ap (λ p. nat_lt p (place_at halves c.args.next)) (sym (stands_place halves c.args.slot c.in-Some.own own))
