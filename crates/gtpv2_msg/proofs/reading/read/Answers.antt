-- What is found and refused is exact.
use Rattle.gtpv2_msg.proofs.ReadingLemmas.{all_read, all_told}
use Rattle.gtpv2_msg.proofs.WhatIsRead.{read_required}
use Rattle.gtpv2_msg.proofs.reading.read.Goals as goal

pub returns-clause-only : goal.returns-clause-only
returns-clause-only c = all_read _ _ c.read_message.ensures.found c.read_message.ensures.refused

pub returns-clause-fault : goal.returns-clause-fault
returns-clause-fault c = all_told _ _ c.read_message.ensures.found c.read_message.ensures.refused

pub returns-clause-required : goal.returns-clause-required
returns-clause-required c = read_required _ _ c.read_message.ensures.found
