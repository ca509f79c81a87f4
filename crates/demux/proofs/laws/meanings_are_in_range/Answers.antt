use Rattle.demux.proofs.RangeLemmas.{meaning_in}
use Rattle.demux.proofs.laws.meanings_are_in_range.Goals as goal

pub returns : goal.returns
returns c = meaning_in
