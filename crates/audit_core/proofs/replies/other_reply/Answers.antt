use Rattle.std.proofs.Common.{◌∙◌, Some, sym, ap}
use Rattle.report_lines.specs.Records.{Answered}
use Rattle.std.specs.List.{cons_option}
use Rattle.slot_execution.specs.Replaying.{replies_in}
use Rattle.slot_execution.specs.declared.replayed.NumberedReply.{NumberedReply}
use Rattle.audit_core.specs.Answers.{reply_in, reply_of}
use Rattle.audit_core.specs.Meant.{line_told}
use Rattle.audit_core.proofs.ReplyLemmas.{is_other, is_told}
use Rattle.audit_core.proofs.RestLemmas.{denied}
use Rattle.audit_core.proofs.ShareLemmas.{no_reply}
use Rattle.audit_core.proofs.replies.other_reply.Goals as goal

pub returns-then-same_reply-clause-same : goal.returns-then-same_reply-clause-same
returns-then-same_reply-clause-same c =
    is_told (λ (r : NumberedReply). r.reply) (reply_in (line_told c.args.told.now)) c.pop_front-own.result
    c.answered.inside.reply c.args.made.now.items c.pop_front-own.new.self.items c.pop_front-own.ensures.items
    (ap reply_of c.in-C.is ∙ ap Some (sym (ap (λ (a : Answered). a.reply) c.answered.view_is))) (c.same_reply.ensures.0 c.if-same_reply.true)

pub returns-else-same_reply-clause-other : goal.returns-else-same_reply-clause-other
returns-else-same_reply-clause-other c =
    is_other (λ (r : NumberedReply). r.reply) (reply_in (line_told c.args.told.now)) c.pop_front-own.result
    c.answered.inside.reply c.args.made.now.items c.pop_front-own.new.self.items c.pop_front-own.ensures.items
    c.pop_front-own.ensures.rest (ap reply_of c.in-C.is ∙ ap Some (sym (ap (λ (a : Answered). a.reply) c.answered.view_is))) (denied c.same_reply.ensures c.if-same_reply.false)

pub returns-in_default-clause-same : goal.returns-in_default-clause-same
returns-in_default-clause-same c =
    ap (λ o. cons_option o (replies_in c.args.made.now.items)) (sym (no_reply c.args.told.now.entry.now c.in_default.not-C))
