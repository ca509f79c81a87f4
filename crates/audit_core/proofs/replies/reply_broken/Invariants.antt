use Rattle.slot_execution.specs.Replaying.{replies_in}
use Rattle.audit_core.specs.Answers.{reply_in}
use Rattle.audit_core.specs.Meant.{lines_of}
use Rattle.audit_core.proofs.ReplyLemmas.{SaidUpTo}
use Rattle.audit_core.proofs.replies.reply_broken.Given as goal

abbrev pub invariant-loop-told : goal.invariant-loop-told
invariant-loop-told l =
    SaidUpTo reply_in (replies_in l.fn.made.items) (lines_of l.lines) l.told-index (replies_in l.made.items)
