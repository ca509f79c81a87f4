use Rattle.tft_codec.proofs.TftLemmas.{spelled_again}
use Rattle.tft_codec.proofs.laws.reads_back.Goals as goal

pub returns : goal.returns
returns c = spelled_again
