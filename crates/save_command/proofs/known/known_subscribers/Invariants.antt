use Rattle.std.proofs.Common.{take}
use Rattle.std.specs.Prelude.{All}
use Rattle.save_command.specs.Known.{IsKnown}
use Rattle.save_command.proofs.known.known_subscribers.Given as goal

abbrev pub invariant-loop-subscriber : goal.invariant-loop-subscriber
invariant-loop-subscriber l = All IsKnown (take l.subscriber-index l.subscribers)
