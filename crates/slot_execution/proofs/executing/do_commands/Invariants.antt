use Rattle.std.proofs.Common.{◌≡◌, ℕ, ◌++◌, List, map, take}
use Rattle.gate_model.specs.declared.event.Event.{Event}
use Rattle.gate_model.specs.declared.event.Event.TheVariants as event
use Rattle.subscriber.specs.Standing.{last_of}
use Rattle.slot_execution.specs.Replaying.{commands_lent, KeepsPackets, Plays}
use Rattle.slot_execution.proofs.executing.do_commands.Given as goal

abbrev pub invariant-loop-command : goal.invariant-loop-command
invariant-loop-command l = record {
  plays : (slot : ℕ) (before now : List Event) → Plays l.fn.subscriber l.fn.replayed slot before now
      → Plays l.subscriber l.replayed slot before
      (now ++ map event.Command (commands_lent (take l.command-index l.commands)));
  packets : KeepsPackets l.fn.replayed l.replayed;
  last : last_of l.subscriber ≡ last_of l.fn.subscriber;
  destination : l.subscriber.destination ≡ l.fn.subscriber.destination;
}
