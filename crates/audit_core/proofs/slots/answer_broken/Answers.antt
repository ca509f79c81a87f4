use Rattle.std.proofs.Common.{inl, inr}
use Rattle.audit_core.specs.Gateway.{AnswerBreak, ReplyBreak, VerdictBreak}
use Rattle.audit_core.specs.Meant.{lines_of}
use Rattle.slot_execution.specs.Replaying.{replies_in, verdicts_in}
use Rattle.audit_core.proofs.PlayLemmas.{none_known}
use Rattle.audit_core.proofs.WhyFound.{none_found, some_found, some_weaker}
use Rattle.audit_core.proofs.slots.answer_broken.Goals as goal

pub returns-in-Some-clause-some : goal.returns-in-Some-clause-some
returns-in-Some-clause-some c =
    inl (some_found (ReplyBreak c.args.slot (replies_in c.args.replayed.now.replies.items) (lines_of c.args.lines.now))
    c.in_ok-found.found c.in-Some.broken c.in_ok-found.ensures.some c.in-Some.is)

pub returns-in-None-clause-some : goal.returns-in-None-clause-some
returns-in-None-clause-some c =
    let lines = lines_of c.args.lines.now in
    let made = c.args.replayed.now in
    some_weaker (VerdictBreak c.args.slot (verdicts_in made.packets.items) lines)
    (AnswerBreak c.args.slot (replies_in made.replies.items) (verdicts_in made.packets.items) lines)
    c.verdict_broken.result
    (λ found there. inr (none_found c.in_ok-found.found c.in_ok-found.ensures.none c.in-None.is, there))
    c.verdict_broken.ensures.some

pub returns-in-None-clause-replies : goal.returns-in-None-clause-replies
returns-in-None-clause-replies c =
    none_known c.verdict_broken.result (none_found c.in_ok-found.found c.in_ok-found.ensures.none c.in-None.is)
