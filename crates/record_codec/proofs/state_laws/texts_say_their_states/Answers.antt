use Rattle.record_codec.proofs.SavedLemmas.{texts_say}
use Rattle.record_codec.proofs.state_laws.texts_say_their_states.Goals as goal

pub returns : goal.returns
returns c = texts_say
