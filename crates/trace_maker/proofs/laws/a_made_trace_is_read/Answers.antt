use Rattle.trace_maker.proofs.ReadLemmas.{made_is_read}
use Rattle.trace_maker.proofs.laws.a_made_trace_is_read.Goals as goal

pub returns : goal.returns
returns c seed subscribers lines some slots most = made_is_read seed subscribers lines some slots most
