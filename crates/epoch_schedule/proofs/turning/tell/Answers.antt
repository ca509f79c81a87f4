use Rattle.std.proofs.Common.{[], ◌∷◌, subst, sym}
use Rattle.epoch_schedule.specs.World.{World}
use Rattle.epoch_schedule.specs.Busy.{AreBusyBut}
use Rattle.epoch_schedule.specs.Worlds.{world_of}
use Rattle.epoch_schedule.proofs.Busying.{come_busy, go_busy}
use Rattle.epoch_schedule.proofs.Kept.{on_ok}
use Rattle.epoch_schedule.proofs.turning.tell.Goals as goal

pub wake-requires : goal.wake-requires
wake-requires c = (
  c.in-Come.slot ∷ [],
  subst (λ (w : World). AreBusyBut c.args.setup.now.rooms.room (c.in-Come.slot ∷ []) c.args.busy.now.items w)
      (sym c.in_ok-hold_control-in-Come.ensures)
      (come_busy c.args.setup.now.rooms.room c.args.busy.now.items (world_of c.args.numbers.now) c.args.slice
      c.in-Come.slot c.requires),
)

pub returns-in_ok-hold_control-in-Come-clause-busy : goal.returns-in_ok-hold_control-in-Come-clause-busy
returns-in_ok-hold_control-in-Come-clause-busy c =
    on_ok c.wake.result (λ woken.
    woken [] (subst (λ (w : World). AreBusyBut c.args.setup.now.rooms.room (c.in-Come.slot ∷ []) c.args.busy.now.items w)
    (sym c.in_ok-hold_control-in-Come.ensures)
    (come_busy c.args.setup.now.rooms.room c.args.busy.now.items (world_of c.args.numbers.now) c.args.slice
    c.in-Come.slot c.requires))) c.wake.ensures

pub returns-in-Go-clause-busy : goal.returns-in-Go-clause-busy
returns-in-Go-clause-busy c =
    on_ok c.mark_control.result (λ is.
    subst (λ (w : World). AreBusyBut c.args.setup.now.rooms.room [] c.args.busy.now.items w) (sym is)
    (go_busy c.args.setup.now.rooms.room c.args.busy.now.items (world_of c.args.numbers.now) c.args.slice c.in-Go.slot
    c.in-Go.until c.requires)) c.mark_control.ensures
