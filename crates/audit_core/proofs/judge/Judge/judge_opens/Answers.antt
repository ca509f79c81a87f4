use Rattle.std.proofs.Common.{◌≡◌, ◌∙◌, ap}
use Rattle.audit_core.specs.Agreeing.{lent}
use Rattle.audit_core.specs.Entries.{opens_told}
use Rattle.audit_core.specs.declared.sentence.Sentence.TheVariants as of
use Rattle.audit_core.proofs.BelongLemmas.{opens_belong}
use Rattle.audit_core.proofs.EndSteps.{opens_end}
use Rattle.audit_core.proofs.JudgeSteps.{ended_on}
use Rattle.audit_core.proofs.judge.Judge.judge_opens.Goals as goal

pub returns : goal.returns
returns c = λ own belong due_is ended.
    let told = lent c.as_slice.result.now in
    let told_is : told ≡ opens_told own.entries =
    ap lent c.as_slice.ensures.value ∙ c.in_ok-told.ensures
    ∙ opens_belong own.made own.entries c.args.entries.now belong in
    ended_on own 8 of.Opens c.in_ok-found.found c.args.self.now c.offer.new.self c.offer.ensures.broken
    c.offer.ensures.entries
    (opens_end own c.args.self.now.broken c.in_ok-found.found told c.args.due.now told_is due_is
    c.in_ok-found.ensures.some c.in_ok-found.ensures.none) ended
