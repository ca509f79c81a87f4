use Rattle.slot_execution.specs.Replaying.{AreShort, verdicts_in}
use Rattle.audit_core.specs.Answers.{verdict_in}
use Rattle.audit_core.specs.Meant.{lines_of}
use Rattle.audit_core.proofs.ReplyLemmas.{SaidUpTo}
use Rattle.audit_core.proofs.replies.verdict_broken.Given as goal

abbrev pub invariant-loop-told : goal.invariant-loop-told
invariant-loop-told l = record {
  said : SaidUpTo verdict_in (verdicts_in l.fn.made.items) (lines_of l.lines) l.told-index (verdicts_in l.made.items);
  short : AreShort l.made.items;
}
