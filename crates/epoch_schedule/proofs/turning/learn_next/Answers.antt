use Rattle.std.proofs.Common.{[], subst, sym}
use Rattle.epoch_schedule.specs.World.{World}
use Rattle.epoch_schedule.specs.Busy.{AreBusyBut}
use Rattle.epoch_schedule.proofs.turning.learn_next.Goals as goal

pub learn_on-requires : goal.learn_on-requires
learn_on-requires c =
    subst (λ (w : World). AreBusyBut c.args.setup.now.rooms.room [] c.args.busy.now.items w)
    (sym c.in-Some.ensures.round) c.requires

pub returns-in-None-clause-busy : goal.returns-in-None-clause-busy
returns-in-None-clause-busy c =
    subst (λ (w : World). AreBusyBut c.args.setup.now.rooms.room [] c.args.busy.now.items w)
    (sym c.in-None.ensures.none.0) c.requires
