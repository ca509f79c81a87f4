use Rattle.tft_match.proofs.ChosenLemmas.{chosen_taken}
use Rattle.tft_match.proofs.laws.chosen_is_taken.Goals as goal

pub returns : goal.returns
returns c = chosen_taken
