use Rattle.std.proofs.Common.{arith}
use Rattle.std.proofs.lemmas.Str.{IsUtf8-from_ascii}
use Rattle.std.proofs.lemmas.Str.Ascii.{IsAscii-from_all}
use Rattle.report_lines.specs.Records.{IsNote}
use Rattle.report_lines.proofs.shown.write_note.Goals as goal

pub unreachable-requires : goal.unreachable-requires
unreachable-requires g c =
    let note : IsNote c.note.inside.note = c.note.invariant in
    c.in-Err.ensures.cases.0
    (IsUtf8-from_ascii _
    (rw c.as_slice.ensures
    (IsAscii-from_all c.note.inside.note (λ place default inside. omega (arith, note.1 place default inside)))))
