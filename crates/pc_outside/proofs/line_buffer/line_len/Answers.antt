use Rattle.std.proofs.Common.{◌≡◌, ◌+◌, ◌-◌, ◌≤◌, length, take, ap, ◌∙◌, subst, arith}
use Rattle.std.proofs.lemmas.List.{take_min}
use Rattle.std.proofs.lemmas.List.Edits.{length-between}
use Rattle.pc_outside.specs.Line.{NoNewline}
use Rattle.pc_outside.proofs.Newlines.{no_newline-searched}
use Rattle.pc_outside.proofs.line_buffer.line_len.Goals as goal

pub returns-in-Some-clause-line : goal.returns-in-Some-clause-line
returns-in-Some-clause-line c =
    let end = c.min-end.result in
    let within : end ≤ length c.args.octets.now = omega arith in
    no_newline-searched c.args.octets.now c.args.seen end c.in-Some.at within
    (omega (arith, length-between c.args.octets.now c.args.seen end within, c.in-Some.ensures.0.high))
    c.requires.seen_none c.in-Some.ensures.0.before

pub returns-in-None-clause-none : goal.returns-in-None-clause-none
returns-in-None-clause-none c =
    let octets = c.args.octets.now in
    let end = c.min-end.result in
    let within : end ≤ length octets = omega arith in
    let all : c.args.seen + (end - c.args.seen) ≡ end = omega arith in
    let searched : NoNewline (take (c.args.seen + (end - c.args.seen)) octets) =
    no_newline-searched octets c.args.seen end (end - c.args.seen) within (omega arith) c.requires.seen_none
    (λ k low high. c.in-None.ensures k low (omega (arith, high, length-between octets c.args.seen end within))) in
    subst (λ octets. NoNewline octets) (ap (λ n. take n octets) (all ∙ c.min-end.ensures)
    ∙ take_min 132001 octets) searched
