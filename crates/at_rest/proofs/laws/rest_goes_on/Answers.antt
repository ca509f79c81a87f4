use Rattle.at_rest.proofs.Resting.{goes_on}
use Rattle.at_rest.proofs.laws.rest_goes_on.Goals as goal

pub returns : goal.returns
returns c = goes_on
