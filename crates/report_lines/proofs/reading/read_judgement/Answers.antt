use Rattle.text_fields.specs.Fields.{space, pieces_left}
use Rattle.report_lines.proofs.KeepLemmas.{verdict_keeps, place_keeps}
use Rattle.report_lines.proofs.reading.read_judgement.Goals as goal

pub invariant_of-result : goal.invariant_of-result
invariant_of-result c = (
  verdict_keeps (pieces_left space c.in-Some-next_number.left) c.in_ok-verdict.field-0 c.in-Some-2.verdict
      c.in-Some-2.left
      c.in_ok-verdict.ensures c.in-Some-2.is,
  place_keeps (pieces_left space c.in-Some-2.left) c.in-Some-read_place.place c.in-Some-read_place.parked (cc),
)
