use Rattle.rate_policer.proofs.Windows.{policed_none, policed_grow}
use Rattle.rate_policer.proofs.conforming.policed_lists_grow.Goals as goal

pub returns-clause-none : goal.returns-clause-none
returns-clause-none c = policed_none

pub returns-clause-grow : goal.returns-clause-grow
returns-clause-grow c = policed_grow
