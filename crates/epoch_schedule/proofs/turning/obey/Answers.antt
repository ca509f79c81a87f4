use Rattle.std.proofs.Common.{[], subst, sym, ap}
use Rattle.epoch_schedule.specs.World.{World}
use Rattle.epoch_schedule.specs.DataTurns.{Doing}
use Rattle.epoch_schedule.specs.Busy.{AreBusyBut}
use Rattle.epoch_schedule.specs.Worlds.{world_of}
use Rattle.epoch_schedule.proofs.Flowing.{handled_busy}
use Rattle.epoch_schedule.proofs.Kept.{if_ok}
use Rattle.epoch_schedule.proofs.turning.obey.Goals as goal

pub returns-in_ok-learn_on-in-Item-clause-busy : goal.returns-in_ok-learn_on-in-Item-clause-busy
returns-in_ok-learn_on-in-Item-clause-busy c =
    if_ok c.handle_or_keep.result (λ going is.
    subst (λ (w : World). AreBusyBut c.args.setup.now.rooms.room [] c.learn_on.new.busy.items w)
    (sym (ap (λ (now : Doing). now.world) is))
    (handled_busy c.args.setup.now.rooms.room c.learn_on.new.busy.items c.args.slice (world_of c.learn_on.new.numbers)
    c.in-Item.slot c.in_ok-learn_on-in-Item.ensures.busy)) c.handle_or_keep.ensures

pub returns-in_ok-hold_data-in-Arrive-clause-busy : goal.returns-in_ok-hold_data-in-Arrive-clause-busy
returns-in_ok-hold_data-in-Arrive-clause-busy c =
    subst (λ (w : World). AreBusyBut c.args.setup.now.rooms.room [] c.args.busy.now.items w)
    (sym c.in_ok-hold_data-in-Arrive.ensures) c.requires.busy

pub returns-in_ok-let_go-in-Leave-clause-busy : goal.returns-in_ok-let_go-in-Leave-clause-busy
returns-in_ok-let_go-in-Leave-clause-busy c =
    subst (λ (w : World). AreBusyBut c.args.setup.now.rooms.room [] c.args.busy.now.items w)
    (sym c.in_ok-let_go-in-Leave.ensures) c.requires.busy
