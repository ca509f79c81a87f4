use Rattle.gate_model.proofs.HeldOnce.{held_once}
use Rattle.gate_model.proofs.laws.each_held_packet_once.Goals as goal

pub returns : goal.returns
returns c = held_once
