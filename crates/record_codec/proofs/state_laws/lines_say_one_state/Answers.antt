use Rattle.record_codec.proofs.SavedLemmas.{one_said}
use Rattle.record_codec.proofs.state_laws.lines_say_one_state.Goals as goal

pub returns : goal.returns
returns c = one_said c.one_file_of_a_state.ensures
