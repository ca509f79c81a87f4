use Rattle.std.proofs.Common.{[], ◌∷◌, subst, sym}
use Rattle.epoch_schedule.specs.World.{World, control_at}
use Rattle.epoch_schedule.specs.ControlTurns.{place_done}
use Rattle.epoch_schedule.specs.Busy.{AreBusyBut}
use Rattle.epoch_schedule.specs.Worlds.{world_of}
use Rattle.epoch_schedule.proofs.Busying.{left_busy}
use Rattle.epoch_schedule.proofs.Kept.{on_ok}
use Rattle.epoch_schedule.proofs.turning.send_home.Goals as goal

pub leave-requires : goal.leave-requires
leave-requires c = (c.args.setup.now.rooms.room, c.requires.busy)

pub wake-requires : goal.wake-requires
wake-requires c = (
  c.done_slot-slot.result ∷ [],
  subst (λ (w : World). AreBusyBut c.args.setup.now.rooms.room (c.done_slot-slot.result ∷ []) c.leave.new.busy.items w)
      (sym c.in_ok-send_done.ensures)
      (left_busy c.args.setup.now.rooms.room c.args.busy.now.items c.leave.new.busy.items (world_of c.args.numbers.now)
      c.args.slice (place_done (world_of c.args.numbers.now) (control_at (world_of c.args.numbers.now) c.args.slice).held)
      c.done_slot-slot.result c.requires.done c.done_slot-slot.ensures c.requires.busy c.leave.ensures),
)

pub returns-clause-busy : goal.returns-clause-busy
returns-clause-busy c =
    on_ok c.wake.result (λ woken.
    woken []
    (subst (λ (w : World). AreBusyBut c.args.setup.now.rooms.room (c.done_slot-slot.result ∷ []) c.leave.new.busy.items w)
    (sym c.in_ok-send_done.ensures)
    (left_busy c.args.setup.now.rooms.room c.args.busy.now.items c.leave.new.busy.items (world_of c.args.numbers.now)
    c.args.slice (place_done (world_of c.args.numbers.now) (control_at (world_of c.args.numbers.now) c.args.slice).held)
    c.done_slot-slot.result c.requires.done c.done_slot-slot.ensures c.requires.busy c.leave.ensures))) c.wake.ensures
