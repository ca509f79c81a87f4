use Rattle.control_steps.proofs.MessageLemmas.{create_is_answered}
use Rattle.control_steps.proofs.creating.refuse_pdn.Goals as goal

pub cause_answer-requires-clause-kind : goal.cause_answer-requires-clause-kind
cause_answer-requires-clause-kind c = create_is_answered
