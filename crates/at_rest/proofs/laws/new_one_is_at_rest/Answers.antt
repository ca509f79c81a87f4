use Rattle.at_rest.proofs.Resting.{new_rests}
use Rattle.at_rest.proofs.laws.new_one_is_at_rest.Goals as goal

pub returns : goal.returns
returns c = new_rests
