use Rattle.std.proofs.Common.{ap, ◌∙◌}
use Rattle.text_fields.specs.Fields.{space, pieces_left, joined}
use Rattle.text_fields.proofs.FieldLemmas.{joined-pieces}
use Rattle.report_lines.proofs.KeepLemmas.{note_found, note_refused}
use Rattle.report_lines.proofs.reading.read_note.Goals as goal

pub returns-then-not-is_note : goal.returns-then-not-is_note
returns-then-not-is_note c =
    note_refused (pieces_left space c.args.left) (pieces_left space c.in-Some.left) c.in-Some.line
    c.in-Some-left.text.now c.in-Some.ensures.given
    (ap (λ left. joined (pieces_left space left)) c.in-Some-left.is ∙ joined-pieces space c.in-Some-left.text.now) (cc)

pub returns : goal.returns
returns c =
    note_found (pieces_left space c.args.left) (pieces_left space c.in-Some.left) c.in-Some.line
    c.in-Some-left.text.now c.in_ok-note.note
    c.in-Some.ensures.given (ap (λ left. joined (pieces_left space left)) c.in-Some-left.is
    ∙ joined-pieces space c.in-Some-left.text.now)
    (cc) c.in_ok-note.ensures
