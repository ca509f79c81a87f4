use Rattle.text_fields.specs.Fields.{space, pieces_left}
use Rattle.report_lines.proofs.KeepLemmas.{message_keeps}
use Rattle.report_lines.proofs.reading.read_answer.Goals as goal

pub invariant_of-result : goal.invariant_of-result
invariant_of-result c =
    message_keeps (pieces_left space c.in-Some-next_outcome.left) c.in_ok-message.field-0 c.in-Some-2.message
    c.in-Some-2.left
    c.in_ok-message.ensures.given c.in-Some-2.is
