use Rattle.std.proofs.Common.{subst}
use Rattle.audit_core.specs.Meant.{lines_of}
use Rattle.audit_core.specs.Played.{AnswersBelow}
use Rattle.audit_core.proofs.PlayLemmas.{answers_kept, answers_next}
use Rattle.audit_core.proofs.slots.next_answers.Goals as goal

pub returns-in-Some-clause-answers : goal.returns-in-Some-clause-answers
returns-in-Some-clause-answers c = λ first histories all are same leads below.
    answers_kept c.args.slot histories all c.in-Some.broken
    (subst (AnswersBelow c.args.slot histories all) c.in-Some.is below)

pub returns-in-None-clause-answers : goal.returns-in-None-clause-answers
returns-in-None-clause-answers c = λ first histories all are same leads below.
    answers_next first c.args.slot histories all (lines_of c.args.lines.now) c.args.replayed.now c.answer_broken.result
    are same leads (subst (AnswersBelow c.args.slot histories all) c.in-None.is below) c.answer_broken.ensures.some
    c.answer_broken.ensures.replies c.answer_broken.ensures.verdicts
