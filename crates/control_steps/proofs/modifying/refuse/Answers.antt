use Rattle.control_steps.proofs.MessageLemmas.{modify_is_answered}
use Rattle.control_steps.proofs.modifying.refuse.Goals as goal

pub cause_answer-requires-clause-kind : goal.cause_answer-requires-clause-kind
cause_answer-requires-clause-kind c = modify_is_answered
