use Rattle.demux.proofs.AnswerLemmas.{creation_is_answered}
use Rattle.demux.proofs.mme.pool_note.Goals as goal

pub cause_alone-requires-clause-request : goal.cause_alone-requires-clause-request
cause_alone-requires-clause-request c = creation_is_answered
