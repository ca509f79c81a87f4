use Rattle.control_steps.proofs.MessageLemmas.{release_is_answered}
use Rattle.control_steps.proofs.ending.release.Goals as goal

pub cause_answer-requires-clause-kind : goal.cause_answer-requires-clause-kind
cause_answer-requires-clause-kind c = release_is_answered

pub cause_answer-requires-2-clause-kind : goal.cause_answer-requires-2-clause-kind
cause_answer-requires-2-clause-kind c = release_is_answered
