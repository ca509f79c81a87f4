use Rattle.gtpu_codec.proofs.MessageLemmas.{message_is, message_spells}
use Rattle.gtpu_codec.proofs.laws.message_is_spelled.Goals as goal

pub returns : goal.returns
returns c = λ octets head body. (message_is octets head body, message_spells octets head body)
