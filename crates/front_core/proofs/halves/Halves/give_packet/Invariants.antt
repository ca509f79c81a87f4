use Rattle.front_core.proofs.Trying.{PacketTried}
use Rattle.front_core.proofs.halves.Halves.give_packet.Given as goal

abbrev pub invariant-loop : goal.invariant-loop
invariant-loop g l = PacketTried l.fn.slot l.fn.packet l.packet l.counter l.fn.self l.self
