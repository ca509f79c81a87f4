use Rattle.gtpv2_msg.proofs.ReadingLemmas.{without_fault, message_of}
use Rattle.gtpv2_msg.proofs.laws.faults_or_spells.Goals as goal

pub returns-clause-faultless : goal.returns-clause-faultless
returns-clause-faultless c = without_fault

pub returns-clause-spells : goal.returns-clause-spells
returns-clause-spells c = message_of
