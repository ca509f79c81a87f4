use Rattle.std.proofs.Common.{rules, ◌≡◌, [], refl, subst, sym}
use Rattle.epoch_schedule.specs.World.{World}
use Rattle.epoch_schedule.specs.Schedule.{turned}
use Rattle.epoch_schedule.specs.Busy.{AreBusyBut}
use Rattle.epoch_schedule.specs.Listed.{AreListed}
use Rattle.epoch_schedule.specs.Worlds.{world_of}
use Rattle.epoch_schedule.specs.declared.waiting.WaitingSlots.{WaitingSlots}
use Rattle.epoch_schedule.proofs.Kept.{turn_listed}
use Rattle.epoch_schedule.proofs.turning.turn.Goals as goal

pub returns-then-worker-eq0-clause-listed : goal.returns-then-worker-eq0-clause-listed
returns-then-worker-eq0-clause-listed c =
    let setup = c.args.setup.now in
    let old : WaitingSlots = c.args.waiting.now in
    let new : WaitingSlots = record old { busy = c.control_turn.new.busy } in
    let is : world_of c.control_turn.new.numbers ≡ turned setup.rooms (world_of c.args.numbers.now) c.args.worker =
    search rules in
    subst (λ (w : World). AreListed setup new w) (sym is)
    (turn_listed setup old new (world_of c.args.numbers.now) c.args.worker refl refl refl c.requires.listed
    (subst (λ (w : World). AreBusyBut setup.rooms.room [] new.busy.items w) is c.in_ok-control_turn.ensures.busy))

pub returns-clause-listed : goal.returns-clause-listed
returns-clause-listed c =
    let setup = c.args.setup.now in
    let old : WaitingSlots = c.args.waiting.now in
    let new : WaitingSlots = record old { busy = c.data_turn.new.busy } in
    let is : world_of c.data_turn.new.numbers ≡ turned setup.rooms (world_of c.args.numbers.now) c.args.worker =
    search rules in
    subst (λ (w : World). AreListed setup new w) (sym is)
    (turn_listed setup old new (world_of c.args.numbers.now) c.args.worker refl refl refl c.requires.listed
    (subst (λ (w : World). AreBusyBut setup.rooms.room [] new.busy.items w) is c.in_ok-data_turn.ensures.busy))
