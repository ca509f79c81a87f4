use Rattle.std.proofs.Common.{length}
use Rattle.std.proofs.Math.Logic.{∥∥₁_map}
use Rattle.lawful_run.proofs.EventByEvent.{command_rises}
use Rattle.slot_execution.specs.Replaying.{CanPlay, Plays}
use Rattle.slot_execution.proofs.executing.do_commands.Goals as goal

pub do_command-requires : goal.do_command-requires
do_command-requires c =
    let at = c.loop-command in
    ∥∥₁_map c.requires (λ (can : CanPlay c.args.subscriber.now c.args.replayed.now (length c.args.commands.now)).
    command_rises (Plays at.subscriber at.replayed) can.slot can.before can.now c.args.commands.now at.command-index
    c.loop-command-test.true can.few (at.invariant.plays can.slot can.before can.now can.holds))
