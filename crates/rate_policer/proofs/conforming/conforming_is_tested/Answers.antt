use Rattle.rate_policer.proofs.Testing.{conforming_tested}
use Rattle.rate_policer.proofs.conforming.conforming_is_tested.Goals as goal

pub returns : goal.returns
returns c = conforming_tested
