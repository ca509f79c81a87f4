use Rattle.std.proofs.Common.{[], subst, sym, ap}
use Rattle.epoch_schedule.specs.World.{World, data_at}
use Rattle.epoch_schedule.specs.DataTurns.{Doing}
use Rattle.epoch_schedule.specs.Busy.{AreBusyBut}
use Rattle.epoch_schedule.specs.Worlds.{world_of}
use Rattle.epoch_schedule.proofs.Flowing.{go_home_busy}
use Rattle.epoch_schedule.proofs.turning.data_turn.Goals as goal

pub take_orders-requires-clause-busy : goal.take_orders-requires-clause-busy
take_orders-requires-clause-busy c =
    let world = world_of c.args.numbers.now in
    subst (λ (w : World). AreBusyBut c.args.setup.now.rooms.room [] c.args.busy.now.items w)
    (sym (ap (λ (now : Doing). now.world) c.in_ok-home.ensures))
    (go_home_busy c.args.setup.now.rooms.room c.args.busy.now.items c.args.slice world
    (data_at world c.args.slice).waiting c.requires.busy)
