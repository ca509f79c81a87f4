use Rattle.gtpv2_msg.proofs.RoundTrip.{spells_again}
use Rattle.gtpv2_msg.proofs.WhatIsRead.{has_required}
use Rattle.gtpv2_msg.proofs.laws.read_messages_read_back.Goals as goal

pub returns-clause-required : goal.returns-clause-required
returns-clause-required c = has_required

pub returns-clause-again : goal.returns-clause-again
returns-clause-again c = λ octets more message is are spells.
    spells_again message more is are (has_required octets message spells)
