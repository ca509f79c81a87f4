use Rattle.std.proofs.Common.{◌+◌, length, refl, sym, ◌∙◌, arith}
use Rattle.epoch_schedule.specs.Rosters.{present, place_at}
use Rattle.epoch_schedule.proofs.Places.{place_all, settled_at, settled_behind}
use Rattle.epoch_schedule.proofs.roster.round_from.Goals as goal

pub returns-then-are_next-clause-place : goal.returns-then-are_next-clause-place
returns-then-are_next-clause-place c =
    let halves = c.args.halves.now in
    let so = c.if-are_next.ensures in
    settled_at halves (c.args.from + 1) (c.args.from + 1) so.next refl
    ∙ settled_behind halves c.args.from (place_at halves c.args.from) (length (present halves)) so.here refl

pub returns-clause-place : goal.returns-clause-place
returns-clause-place c =
    let same = c.first_from-at.ensures.place in
    c.settle_behind.ensures.place (place_at c.args.halves.now c.args.from) (λ within. sym same) (λ past.
    let all = place_all c.args.halves.now c.first_from-at.result past in
    omega (arith, same, all))
