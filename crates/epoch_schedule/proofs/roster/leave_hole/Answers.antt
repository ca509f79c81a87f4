use Rattle.std.proofs.Common.{None, length, set, sym, ap, ◌∙◌, add-one}
use Rattle.epoch_schedule.specs.World.{cursor_within}
use Rattle.epoch_schedule.specs.Rosters.{present, place_at}
use Rattle.epoch_schedule.proofs.Places.{is_half, hole, one_less, cursor_left}
use Rattle.epoch_schedule.proofs.roster.leave_hole.Goals as goal

pub returns-clause-held : goal.returns-clause-held
returns-clause-held c =
    let halves = c.args.halves.now.items in
    let half = is_half halves c.args.index c.requires.here in
    hole halves c.args.index half.half half.here

pub returns-clause-cursor : goal.returns-clause-cursor
returns-clause-cursor c =
    let halves = c.args.halves.now.items in
    let half = is_half halves c.args.index c.requires.here in
    let value = c.as_slice.ensures.value in
    ap (λ hs. place_at hs c.settle.result) (sym value)
    ∙ c.settle.ensures.place
    ∙ ap (λ hs. cursor_within (place_at hs c.args.next) (length (present hs))) value
    ∙ cursor_left halves c.args.index c.args.next half.half half.here

pub returns-clause-less : goal.returns-clause-less
returns-clause-less c =
    let halves = c.args.halves.now.items in
    let half = is_half halves c.args.index c.requires.here in
    add-one (length (present (set halves c.args.index None)))
    ∙ one_less halves c.args.index half.half half.here
