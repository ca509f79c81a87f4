use Rattle.std.proofs.Common.{[], subst, sym, ap, ◌∙◌}
use Rattle.epoch_schedule.specs.World.{World, ControlNow, on_control}
use Rattle.epoch_schedule.specs.ControlTurns.{behind_order}
use Rattle.epoch_schedule.specs.Busy.{AreBusyBut}
use Rattle.epoch_schedule.specs.WorldNumbers.{control_order}
use Rattle.epoch_schedule.specs.Worlds.{world_of}
use Rattle.epoch_schedule.proofs.Busying.{order_busy}
use Rattle.epoch_schedule.proofs.Kept.{on_ok}
use Rattle.epoch_schedule.proofs.Turned.{order_told}
use Rattle.epoch_schedule.proofs.turning.control_turn.Goals as goal

pub tell-requires : goal.tell-requires
tell-requires c =
    subst (λ (w : World). AreBusyBut c.args.setup.now.rooms.room [] c.args.busy.now.items w) (sym c.in-Some.ensures.rest)
    (order_busy c.args.setup.now.rooms.room [] c.args.busy.now.items (world_of c.args.numbers.now) c.args.slice c.requires)

pub returns-in-Some-clause-world : goal.returns-in-Some-clause-world
returns-in-Some-clause-world c =
    on_ok c.tell.result (λ is.
    is
    ∙ ap
    (λ (w : World).
    on_control w c.args.slice (λ (worker : ControlNow). behind_order worker (control_order c.in-Some.order)))
    c.in-Some.ensures.rest
    ∙ order_told c.args.setup.now.rooms c.args.slice (world_of c.args.numbers.now) (control_order c.in-Some.order)
    c.in-Some.ensures.order) c.tell.ensures.world
