use Rattle.text_fields.specs.Fields.{space, pieces_left}
use Rattle.report_lines.proofs.KeepLemmas.{fate_keeps}
use Rattle.report_lines.proofs.reading.read_settlement.Goals as goal

pub invariant_of-result : goal.invariant_of-result
invariant_of-result c =
    fate_keeps (pieces_left space c.in-Some-next_number-2.left) c.in_ok-fate.field-0 c.in-Some-2.fate c.in-Some-2.left
    c.in_ok-fate.ensures c.in-Some-2.is
