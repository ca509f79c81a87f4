use Rattle.trace_lines.proofs.MessageLemmas.{message_more, message_alone}
use Rattle.trace_lines.proofs.message.refused.Goals as goal

pub returns-in-Some-clause-refusal : goal.returns-in-Some-clause-refusal
returns-in-Some-clause-refusal c _ =
    message_more c.args.text.now c.cut.result.0.now c.in-Some.field-0.now (rw c.in-Some.is at c.cut.ensures.pieces)

pub returns-in_default-2-clause-refusal : goal.returns-in_default-2-clause-refusal
returns-in_default-2-clause-refusal c refused =
    message_alone c.args.text.now c.cut.result.0.now c.args.why (rw c.in_default.is at c.cut.ensures.pieces) refused
