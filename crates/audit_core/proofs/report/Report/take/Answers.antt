use Rattle.std.proofs.Common.{◌≡◌, length, refl, ap, subst, IfSome, arith}
use Rattle.std.proofs.lemmas.Result.{on_ok_weaker}
use Rattle.report_lines.specs.Ranges.{IsEntry}
use Rattle.report_lines.specs.Text.{entry_text}
use Rattle.audit_core.proofs.HeardLemmas.{none_read}
use Rattle.audit_core.proofs.PackedLemmas.{keeps_end}
use Rattle.audit_core.proofs.ReportLemmas.{entry_some, entry_taken, taken_behind, taken_no_entry}
use Rattle.audit_core.proofs.report.Report.take.Goals as goal

pub add-requires-clause-few : goal.add-requires-clause-few
add-requires-clause-few c = omega (arith, c.requires.few, c.epoch_of-epoch.ensures.count)

pub add-requires-clause-runs : goal.add-requires-clause-runs
add-requires-clause-runs c =
    let taken = c.requires.taken.2 in
    (taken.entries, taken.few, rw (c.epoch_of-epoch.ensures.texts, c.epoch_of-epoch.ensures.runs) taken.each)

pub returns-then-self-clause-taken : goal.returns-then-self-clause-taken
returns-then-self-clause-taken c = λ made texts are taken.
    taken_behind made texts c.args.text.now c.args.self.now taken c.if-self.true

pub returns-in-Some-clause-taken : goal.returns-in-Some-clause-taken
returns-in-Some-clause-taken c = λ made texts are taken.
    let found = subst (λ read. IfSome read (λ entry. c.args.text.now ≡ entry_text entry)) c.in-Some.is
    c.in_ok-found.ensures.found in
    let range = subst (λ read. IfSome read IsEntry) c.in-Some.is c.in_ok-found.ensures.ranges in
    let old = c.args.self.now in
    let e = c.epoch_of-epoch.ensures in
    entry_taken c.add.result made texts c.args.text.now old c.epoch_of-epoch.new.self c.add.new.self c.in-Some.entry
    c.epoch_of-epoch.result taken c.if-self.false found range c.requires.few e.texts e.runs e.count e.none
    (keeps_end old.texts (length old.texts) refl) (e.epoch made are) (e.goes_on made are) e.kept (e.outside made are)
    c.add.ensures.texts c.add.ensures.count c.add.ensures.follow c.add.ensures.epochs c.add.ensures.each
    c.add.ensures.goes_on c.add.ensures.outside c.add.ensures.none

pub returns-in-Some-clause-entries : goal.returns-in-Some-clause-entries
returns-in-Some-clause-entries c =
    let found = subst (λ read. IfSome read (λ entry. c.args.text.now ≡ entry_text entry)) c.in-Some.is
    c.in_ok-found.ensures.found in
    let some = entry_some c.in-Some.entry in
    on_ok_weaker c.add.result
    (λ count. omega (arith, count, c.epoch_of-epoch.ensures.count, some, ap length found)) c.add.ensures.count

pub returns-in-None-clause-taken : goal.returns-in-None-clause-taken
returns-in-None-clause-taken c = λ made texts are taken.
    taken_no_entry made texts c.args.text.now c.args.self.now _ taken c.if-self.false refl
    (none_read c.in_ok-found.found c.args.text.now c.in-None.is c.in_ok-found.ensures.only) refl refl refl refl refl
