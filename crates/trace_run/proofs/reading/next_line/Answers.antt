use Rattle.std.proofs.Common.{sym, ap, ◌∙◌, length, arith}
use Rattle.trace_lines.proofs.MeaningLemmas.{meaning_given}
use Rattle.trace_run.specs.Next.{said_in}
use Rattle.trace_run.proofs.NextLemmas.{gives_given, gives_refused, refused-no_fault, tells_given, takes_given, given-no_fault, tells_refused, tells_end, tells_long, tells_big, tells_fault}
use Rattle.trace_run.proofs.reading.next_line.Goals as goal

pub returns-in-End-clause-tells : goal.returns-in-End-clause-tells
returns-in-End-clause-tells g c = tells_end c.args.number c.args.least _ _ _ _ _ _ c.in-End.ensures.octets

pub returns-in-LineLong-clause-tells : goal.returns-in-LineLong-clause-tells
returns-in-LineLong-clause-tells g c = tells_long c.args.number c.args.least _ _ _ _ _ _ c.in-LineLong.ensures.octets

pub returns-in-TooLong-clause-tells : goal.returns-in-TooLong-clause-tells
returns-in-TooLong-clause-tells g c = tells_big c.args.number c.args.least _ _ _ _ _ _ c.in-TooLong.ensures.octets

pub returns-in-ReadFault-clause-tells : goal.returns-in-ReadFault-clause-tells
returns-in-ReadFault-clause-tells g c = tells_fault c.args.number c.args.least _ _ _ _ _ _ c.in-ReadFault.ensures.octets

pub returns-in-Ok-clause-tells : goal.returns-in-Ok-clause-tells
returns-in-Ok-clause-tells g c =
    let line = c.read_line_in.new.line in
    rw (c.given.ensures line, c.is_last.ensures)
    (tells_given c.args.number c.args.least _ _ _ _ c.line-text.result.now _ line _
    (rw (sym c.line-text.ensures) at c.in-Line.ensures.octets)
    c.in-Ok.ensures.line)

pub returns-in-Ok-clause-room : goal.returns-in-Ok-clause-room
returns-in-Ok-clause-room g c =
    let line = c.read_line_in.new.line in
    rw (c.given.ensures line, c.is_last.ensures) (takes_given _ _ _ _ _ _ line _ c.in-Line.ensures.held.1
    (c.in-Ok.ensures.as_long ∙ ap length c.line-text.ensures))

pub returns-in-Ok-clause-given : goal.returns-in-Ok-clause-given
returns-in-Ok-clause-given g c =
    let line = c.read_line_in.new.line in
    rw (c.given.ensures line) (gives_given line _ c.args.number c.args.least c.is_last.result (record {
      numbered = (meaning_given c.args.least c.args.number c.line-text.result.now line c.in-Ok.ensures.line).1;
      long = sym c.in-Ok.ensures.as_long;
      short = omega (arith, c.in-Line.ensures.held.1.short, ap length c.line-text.ensures);
      late = c.in-Ok.ensures.in_order;
    }))

pub returns-in-Ok-clause-fault : goal.returns-in-Ok-clause-fault
returns-in-Ok-clause-fault g c =
    let line = c.read_line_in.new.line in
    λ is. absurd (given-no_fault c.is_last.result line _ (sym (c.given.ensures line) ∙ ap (λ one. said_in one line) is))

pub returns-in-Ok-clause-unfinished : goal.returns-in-Ok-clause-unfinished
returns-in-Ok-clause-unfinished g c =
    let line = c.read_line_in.new.line in
    λ is. absurd (given-no_fault c.is_last.result line _ (sym (c.given.ensures line) ∙ ap (λ one. said_in one line) is))

pub returns-in-Err-clause-given : goal.returns-in-Err-clause-given
returns-in-Err-clause-given g c =
    rw (c.refused.ensures c.read_line_in.new.line) (gives_refused c.in-Err.why c.args.number c.args.least)

pub returns-in-Err-clause-tells : goal.returns-in-Err-clause-tells
returns-in-Err-clause-tells g c =
    rw (c.refused.ensures c.read_line_in.new.line)
    (tells_refused c.args.number c.args.least _ _ _ _ c.line-text.result.now _ c.in-Err.why
    (rw (sym c.line-text.ensures) at c.in-Line.ensures.octets) c.in-Err.ensures.refusal)

pub returns-in-Err-clause-fault : goal.returns-in-Err-clause-fault
returns-in-Err-clause-fault g c =
    let line = c.read_line_in.new.line in
    λ is. absurd (refused-no_fault c.in-Err.why (sym (c.refused.ensures line) ∙ ap (λ one. said_in one line) is))

pub returns-in-Err-clause-unfinished : goal.returns-in-Err-clause-unfinished
returns-in-Err-clause-unfinished g c =
    let line = c.read_line_in.new.line in
    λ is. absurd (refused-no_fault c.in-Err.why (sym (c.refused.ensures line) ∙ ap (λ one. said_in one line) is))
