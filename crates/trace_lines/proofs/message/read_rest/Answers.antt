use Rattle.trace_lines.proofs.MessageLemmas.{message_read}
use Rattle.trace_lines.proofs.message.read_rest.Goals as goal

pub returns-in-Ok-clause-value : goal.returns-in-Ok-clause-value
returns-in-Ok-clause-value c = message_read c.args.text.now c.read_octets.new.octets c.in-Ok.ensures.value
