use Rattle.std.proofs.Common.{◌≡◌, refl, subst, IfSome}
use Rattle.report_lines.specs.Ranges.{IsEntry}
use Rattle.report_lines.specs.Text.{entry_text}
use Rattle.audit_core.proofs.HeardLemmas.{none_read, now_outside, report_more, still_outside}
use Rattle.audit_core.proofs.SaidLemmas.{next_entry}
use Rattle.audit_core.proofs.heard.Heard.take_entry.Goals as goal

pub returns-then-self-clause-heard : goal.returns-then-self-clause-heard
returns-then-self-clause-heard c = λ texts hears.
    report_more c.args.self.now _ texts c.args.text.now c.requires.open refl refl refl refl
    (λ report. rw c.if-self.true (still_outside report _ c.args.text.now)) hears

pub returns-in_ok-push-in-Some-clause-heard : goal.returns-in_ok-push-in-Some-clause-heard
returns-in_ok-push-in-Some-clause-heard c = λ texts hears.
    let found = subst (λ read. IfSome read (λ entry. c.args.text.now ≡ entry_text entry)) c.in-Some.is
    c.in_ok-entry.ensures.found in
    let ranges = subst (λ read. IfSome read IsEntry) c.in-Some.is c.in_ok-entry.ensures.ranges in
    report_more c.args.self.now _ texts c.args.text.now c.requires.open refl refl refl refl
    (λ report. rw (c.if-self.false, c.in_ok-push-in-Some.ensures.items)
    (λ are. next_entry report c.args.text.now _ c.in-Some.entry are found ranges)) hears

pub returns-in-None-clause-heard : goal.returns-in-None-clause-heard
returns-in-None-clause-heard c = λ texts hears.
    report_more c.args.self.now _ texts c.args.text.now c.requires.open refl refl refl refl
    (λ report. rw c.if-self.false (λ are. now_outside report _ c.args.text.now are
    (none_read c.in_ok-entry.field-0 c.args.text.now c.in-None.is c.in_ok-entry.ensures.only))) hears
