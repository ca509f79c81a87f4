use Rattle.tft_match.proofs.LawLemmas.{one_filter}
use Rattle.tft_match.proofs.laws.one_filter_decides.Goals as goal

pub returns : goal.returns
returns c = one_filter
