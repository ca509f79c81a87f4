use Rattle.packet_steps.proofs.PartLemmas.{parts_stand}
use Rattle.packet_steps.proofs.parts.parts_represent_the_same.Goals as goal

pub returns : goal.returns
returns c = parts_stand
