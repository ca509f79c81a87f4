use Rattle.std.proofs.Common.{sym, ◌∙◌}
use Rattle.demux.proofs.AnswerLemmas.{is_answered}
use Rattle.demux.proofs.mme.no_context_reply.Goals as goal

pub cause_alone-requires-clause-request : goal.cause_alone-requires-clause-request
cause_alone-requires-clause-request c =
    is_answered c.message.inside.kind (sym c.is_request.ensures ∙ c.if-is_request.true)
