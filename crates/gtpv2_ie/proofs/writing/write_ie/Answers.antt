use Rattle.gtpv2_ie.proofs.ContextReadBack.{one_read_back}
use Rattle.gtpv2_ie.proofs.writing.write_ie.Goals as goal

pub returns-clause-reads_back : goal.returns-clause-reads_back
returns-clause-reads_back c =
    rw (c.in_ok-push_value.ensures, c.new-out.ensures.items, ← c.ie.view_is)
    (one_read_back (record { instance = c.ie.inside.instance; value = c.ie.inside.value }) c.ie.invariant)
