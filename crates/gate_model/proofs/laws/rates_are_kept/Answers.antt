use Rattle.gate_model.proofs.LifeRates.{lives_policed, shares_policed}
use Rattle.gate_model.proofs.laws.rates_are_kept.Goals as goal

pub returns : goal.returns
returns c = record { lives = lives_policed; shares = shares_policed }
