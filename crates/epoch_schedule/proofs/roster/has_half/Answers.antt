use Rattle.std.proofs.Common.{length, sym, arith}
use Rattle.std.proofs.lemmas.Bool.{lt-ltb, le-ltb}
use Rattle.epoch_schedule.specs.Rosters.{present}
use Rattle.epoch_schedule.specs.Rounds.{place_held}
use Rattle.epoch_schedule.proofs.Places.{lacks_place, stands_place, place_below}
use Rattle.epoch_schedule.proofs.roster.has_half.Goals as goal

pub returns-in-None : goal.returns-in-None
returns-in-None c =
    let halves = c.args.halves.now in
    let all = lacks_place halves c.args.slot c.in-None.ensures.none in
    sym (le-ltb (place_held c.args.slot (present halves)) (length (present halves)) (omega (arith, all)))

pub returns-in-Some : goal.returns-in-Some
returns-in-Some c =
    let halves = c.args.halves.now in
    let stands = c.in-Some.ensures.found in
    let own = stands_place halves c.args.slot _ stands in
    let below = place_below halves _ stands.half stands.here in
    sym (lt-ltb (place_held c.args.slot (present halves)) (length (present halves)) (omega (arith, own, below)))
