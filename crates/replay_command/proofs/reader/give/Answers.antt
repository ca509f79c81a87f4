use Rattle.std.proofs.Common.{false, sym, ap, ◌∙◌, arith}
use Rattle.trace_lines.proofs.MeaningLemmas.{length-line_text, meaning_given}
use Rattle.trace_run.specs.Next.{said_in}
use Rattle.trace_run.proofs.NextLemmas.{given-no_fault, gives_given, gives_refused, refused-no_fault, takes_given, tells_given, tells_refused}
use Rattle.replay_command.proofs.ApartLemmas.{behind_is, holds_first, reads_first}
use Rattle.replay_command.proofs.ToldLemmas.{told_bad, told_line}
use Rattle.replay_command.proofs.reader.give.Goals as goal

pub returns-in-Ok-clause-tells : goal.returns-in-Ok-clause-tells
returns-in-Ok-clause-tells c = λ left.
    let one = c.args.one in
    let buffered = c.args.buf.now.buffered in
    let first = c.requires.1 in
    rw (c.given.ensures c.in-Ok.line, c.give.ensures.buffered, behind_is one buffered c.requires.0 first)
    (tells_given c.args.number c.args.least _ _ _ _ first.text false c.in-Ok.line one.len
    (reads_first one buffered c.requires.0 _ _ left first c.give.ensures.room)
    (told_line c.args.least c.args.number first.text one.line c.in-Ok.line first.means c.in-Ok.ensures))

pub returns-in-Ok-clause-room : goal.returns-in-Ok-clause-room
returns-in-Ok-clause-room c =
    let one = c.args.one in
    let first = c.requires.1 in
    let means = told_line c.args.least c.args.number first.text one.line c.in-Ok.line first.means c.in-Ok.ensures in
    rw (c.given.ensures c.in-Ok.line)
    (takes_given _ _ c.args.buf.now.buffered c.requires.0 first.text false c.in-Ok.line one.len
    (holds_first one c.args.buf.now.buffered c.requires.0 _ _ first c.give.ensures.room)
    (length-line_text first.text c.in-Ok.line
    (meaning_given c.args.least c.args.number first.text c.in-Ok.line means).0))

pub returns-in-Ok-clause-given : goal.returns-in-Ok-clause-given
returns-in-Ok-clause-given c =
    let one = c.args.one in
    let first = c.requires.1 in
    let means = told_line c.args.least c.args.number first.text one.line c.in-Ok.line first.means c.in-Ok.ensures in
    let said = meaning_given c.args.least c.args.number first.text c.in-Ok.line means in
    rw (c.given.ensures c.in-Ok.line) (gives_given c.in-Ok.line one.len c.args.number c.args.least false (record {
      numbered = said.1;
      long = first.long ∙ sym (length-line_text first.text c.in-Ok.line said.0);
      short = omega (arith, first.long, first.short);
      late = said.2;
    }))

pub returns-in-Ok-clause-no_fault : goal.returns-in-Ok-clause-no_fault
returns-in-Ok-clause-no_fault c =
    λ is. given-no_fault false c.in-Ok.line c.args.one.len (sym (c.given.ensures c.in-Ok.line) ∙ ap (λ next. said_in next c.in-Ok.line) is)

pub returns-in-Ok-clause-behind : goal.returns-in-Ok-clause-behind
returns-in-Ok-clause-behind c = λ behind first.
    c.give.ensures.buffered ∙ behind_is c.args.one c.args.buf.now.buffered behind first

pub returns-in-Err-clause-tells : goal.returns-in-Err-clause-tells
returns-in-Err-clause-tells c = λ left.
    let one = c.args.one in
    let buffered = c.args.buf.now.buffered in
    let first = c.requires.1 in
    rw (c.refused.ensures c.args.place.now, c.give.ensures.buffered, behind_is one buffered c.requires.0 first)
    (tells_refused c.args.number c.args.least _ _ _ _ first.text false c.in-Err.why
    (reads_first one buffered c.requires.0 _ _ left first c.give.ensures.room)
    (told_bad c.args.least c.args.number first.text one.line c.in-Err.why first.means c.in-Err.ensures))

pub returns-in-Err-clause-given : goal.returns-in-Err-clause-given
returns-in-Err-clause-given c = rw (c.refused.ensures c.args.place.now) (gives_refused c.in-Err.why c.args.number c.args.least)

pub returns-in-Err-clause-behind : goal.returns-in-Err-clause-behind
returns-in-Err-clause-behind c = λ behind first.
    c.give.ensures.buffered ∙ behind_is c.args.one c.args.buf.now.buffered behind first

pub returns-in-Err-clause-no_fault : goal.returns-in-Err-clause-no_fault
returns-in-Err-clause-no_fault c =
    let line = c.args.place.now in
    λ is. refused-no_fault c.in-Err.why (sym (c.refused.ensures line) ∙ ap (λ next. said_in next line) is)
