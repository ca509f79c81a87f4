use Rattle.gtpu_codec.proofs.TextLemmas.{spelled_again}
use Rattle.gtpu_codec.proofs.laws.reads_back.Goals as goal

pub returns : goal.returns
returns c = spelled_again
