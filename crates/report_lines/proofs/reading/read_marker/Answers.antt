use Rattle.report_lines.proofs.KeepLemmas.{octets_keep}
use Rattle.report_lines.proofs.reading.read_marker.Goals as goal

pub invariant_of-result : goal.invariant_of-result
invariant_of-result c = octets_keep c.in_ok-octets.field-0 c.in-Some-2.octets c.in-Some-2.left
    c.in_ok-octets.ensures.some c.in-Some-2.is
