use Rattle.std.proofs.Common.{[], ◌∷◌, subst, sym}
use Rattle.epoch_schedule.specs.Halves.{learn}
use Rattle.epoch_schedule.specs.World.{World}
use Rattle.epoch_schedule.specs.Busy.{AreBusyBut}
use Rattle.epoch_schedule.specs.Worlds.{world_of}
use Rattle.epoch_schedule.proofs.Busying.{slot_busy}
use Rattle.epoch_schedule.proofs.Kept.{on_ok}
use Rattle.epoch_schedule.proofs.turning.learn_on.Goals as goal

pub wake-requires : goal.wake-requires
wake-requires c = (
  c.args.slot ∷ [],
  subst (λ (w : World). AreBusyBut c.args.setup.now.rooms.room (c.args.slot ∷ []) c.args.busy.now.items w)
      (sym c.in_ok-learn.ensures)
      (slot_busy c.args.setup.now.rooms.room c.args.busy.now.items (world_of c.args.numbers.now) c.args.slot learn c.requires),
)

pub returns-clause-busy : goal.returns-clause-busy
returns-clause-busy c =
    on_ok c.wake.result (λ woken.
    woken [] (subst (λ (w : World). AreBusyBut c.args.setup.now.rooms.room (c.args.slot ∷ []) c.args.busy.now.items w)
    (sym c.in_ok-learn.ensures)
    (slot_busy c.args.setup.now.rooms.room c.args.busy.now.items (world_of c.args.numbers.now) c.args.slot learn
    c.requires))) c.wake.ensures
