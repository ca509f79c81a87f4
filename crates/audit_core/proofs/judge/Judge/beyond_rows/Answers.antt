use Rattle.std.proofs.Common.{◌≡◌, ◌∙◌, None, Some, length, refl, arith}
use Rattle.audit_core.specs.Agreeing.{lent}
use Rattle.audit_core.specs.Entries.{rows_told}
use Rattle.audit_core.specs.declared.sentence.Sentence.TheVariants as of
use Rattle.audit_core.proofs.BelongLemmas.{rows_belong}
use Rattle.audit_core.proofs.EndSteps.{rows_end, first_lent, none_lent}
use Rattle.audit_core.proofs.JudgeSteps.{ended_on}
use Rattle.audit_core.proofs.judge.Judge.beyond_rows.Goals as goal

pub returns-then-len-eq0 : goal.returns-then-len-eq0
returns-then-len-eq0 c = λ own belong ended.
    let items = lent c.in_ok-told.told.items in
    let are : items ≡ rows_told own.made (length own.made) own.entries =
    c.in_ok-told.ensures ∙ rows_belong own.made own.entries c.args.entries.now (length own.made) belong in
    ended_on own 7 of.Rows None c.args.self.now c.args.self.now refl refl
    (rows_end own c.args.self.now.broken None items are tt
    (none_lent c.in_ok-told.told.items (omega arith))) ended

pub returns : goal.returns
returns c = λ own belong ended.
    let items = lent c.in_ok-told.told.items in
    let are : items ≡ rows_told own.made (length own.made) own.entries =
    c.in_ok-told.ensures ∙ rows_belong own.made own.entries c.args.entries.now (length own.made) belong in
    ended_on own 7 of.Rows (Some c.in_ok-found.found) c.args.self.now c.offer.new.self c.offer.ensures.broken
    c.offer.ensures.entries
    (rows_end own c.args.self.now.broken (Some c.in_ok-found.found) items are (
      c.index.result.now.now,
      first_lent c.in_ok-told.told.items c.index.result.now (omega arith) c.index.ensures,
      c.in_ok-found.ensures,
    ) tt) ended
