use Rattle.gtpv2_msg.proofs.RoundTrip.{spells_again}
use Rattle.gtpv2_msg.proofs.writing.write.Goals as goal

pub returns-clause-reads_back : goal.returns-clause-reads_back
returns-clause-reads_back c = λ has more.
    rw c.in_ok-octets.ensures.spelling
    (spells_again _ more c.in_ok-octets.ensures.message c.in_ok-octets.ensures.elements has)
