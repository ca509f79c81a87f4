use Rattle.std.proofs.Common.{ap, ◌∙◌}
use Rattle.epoch_schedule.specs.World.{World}
use Rattle.epoch_schedule.specs.Front.{Done, line_done}
use Rattle.epoch_schedule.specs.Schedule.{turned_all}
use Rattle.epoch_schedule.specs.Lines.{asked}
use Rattle.epoch_schedule.specs.Setups.{bounds_of}
use Rattle.epoch_schedule.specs.TurnsTold.{told_first}
use Rattle.epoch_schedule.proofs.planning.line.Goals as goal

pub returns-clause-outcome : goal.returns-clause-outcome
returns-clause-outcome c =
    let rooms = c.args.setup.now.rooms in
    let bounds = bounds_of c.args.setup.now in
    ap (λ (done : Done). done.outcome) c.in_ok-outcome.ensures.done
    ∙ ap (λ (w : World). (line_done rooms bounds w (asked c.args.ask)).outcome) c.in_ok-pump.ensures.world

pub returns-clause-world : goal.returns-clause-world
returns-clause-world c =
    let rooms = c.args.setup.now.rooms in
    let bounds = bounds_of c.args.setup.now in
    c.in_ok-turn_behind.ensures.world
    ∙ ap (λ (w : World). turned_all rooms w (told_first c.args.turns.now c.args.slices))
    (ap (λ (done : Done). done.world) c.in_ok-outcome.ensures.done
    ∙ ap (λ (w : World). (line_done rooms bounds w (asked c.args.ask)).world) c.in_ok-pump.ensures.world)
