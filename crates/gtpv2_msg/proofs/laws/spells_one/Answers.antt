use Rattle.gtpv2_msg.proofs.ReadingLemmas.{one_message}
use Rattle.gtpv2_msg.proofs.laws.spells_one.Goals as goal

pub returns : goal.returns
returns c = one_message
