use Rattle.gtpv2_msg.proofs.RoundTrip.{spells_again}
use Rattle.gtpv2_msg.proofs.laws.messages_read_back.Goals as goal

pub returns : goal.returns
returns c = spells_again
