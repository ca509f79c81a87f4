use Rattle.front_core.proofs.Trying.{CommandTried}
use Rattle.front_core.proofs.halves.Halves.give_command.Given as goal

abbrev pub invariant-loop : goal.invariant-loop
invariant-loop g l = CommandTried l.fn.slot l.fn.command l.command l.counter l.fn.self l.self
