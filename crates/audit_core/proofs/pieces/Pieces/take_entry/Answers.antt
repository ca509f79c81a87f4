use Rattle.std.proofs.Common.{◌≡◌, ◌∙◌, IfSome, ap, refl, sym, subst}
use Rattle.std.proofs.lemmas.List.{map_push}
use Rattle.report_lines.specs.Ranges.{IsEntry}
use Rattle.report_lines.specs.Text.{entry_text}
use Rattle.audit_core.specs.Matched.{entries_stood}
use Rattle.audit_core.specs.Said.{AreEntries}
use Rattle.audit_core.specs.declared.report.Stood.{Stood}
use Rattle.audit_core.proofs.HeardLemmas.{none_read, now_outside, still_outside}
use Rattle.audit_core.proofs.PieceHeard.{hears_entry}
use Rattle.audit_core.proofs.SaidLemmas.{next_entry}
use Rattle.audit_core.proofs.pieces.Pieces.take_entry.Goals as goal

pub returns-then-self-clause-hears : goal.returns-then-self-clause-hears
returns-then-self-clause-hears c = λ known piece hears.
    hears_entry c.args.self.now _ known piece c.args.text.now hears c.requires.open refl refl refl
    (record { setup = refl; least = refl; book = refl; subscribers = refl; kept = refl; octets = refl; open_octets = refl; ended = refl; over = refl; stopped = refl })
    (λ report. rw c.if-self.true (still_outside report _ c.args.text.now))

pub returns-in_ok-push-in-Some-clause-hears : goal.returns-in_ok-push-in-Some-clause-hears
returns-in_ok-push-in-Some-clause-hears c = λ known piece hears.
    let found = subst (λ read. IfSome read (λ entry. c.args.text.now ≡ entry_text entry)) c.in-Some.is
    c.in_ok-found.ensures.found in
    let ranges = subst (λ read. IfSome read IsEntry) c.in-Some.is c.in_ok-found.ensures.ranges in
    hears_entry c.args.self.now _ known piece c.args.text.now hears c.requires.open refl refl refl
    (record { setup = refl; least = refl; book = refl; subscribers = refl; kept = refl; octets = refl; open_octets = refl; ended = refl; over = refl; stopped = refl })
    (λ report. rw c.if-self.false (λ are. subst (AreEntries _)
    (sym (ap entries_stood c.in_ok-push-in-Some.ensures.items
    ∙ map_push (λ (s : Stood). s.entry) c.args.self.now.entries.items _))
    (next_entry report c.args.text.now _ c.in-Some.entry are found ranges)))

pub returns-in-None-clause-hears : goal.returns-in-None-clause-hears
returns-in-None-clause-hears c = λ known piece hears.
    hears_entry c.args.self.now _ known piece c.args.text.now hears c.requires.open refl refl refl
    (record { setup = refl; least = refl; book = refl; subscribers = refl; kept = refl; octets = refl; open_octets = refl; ended = refl; over = refl; stopped = refl })
    (λ report. rw c.if-self.false (λ are. now_outside report _ c.args.text.now are
    (none_read c.in_ok-found.found c.args.text.now c.in-None.is c.in_ok-found.ensures.only)))
