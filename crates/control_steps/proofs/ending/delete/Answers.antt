use Rattle.control_steps.proofs.MessageLemmas.{delete_is_answered}
use Rattle.control_steps.proofs.ending.delete.Goals as goal

pub cause_answer-requires-clause-kind : goal.cause_answer-requires-clause-kind
cause_answer-requires-clause-kind c = delete_is_answered

pub cause_answer-requires-2-clause-kind : goal.cause_answer-requires-2-clause-kind
cause_answer-requires-2-clause-kind c = delete_is_answered
