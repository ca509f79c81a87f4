use Rattle.record_codec.proofs.FileCodecs.{one_file}
use Rattle.record_codec.proofs.laws.one_file_of_a_state.Goals as goal

pub returns : goal.returns
returns c = one_file
