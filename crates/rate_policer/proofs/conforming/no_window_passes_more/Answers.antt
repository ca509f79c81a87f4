use Rattle.rate_policer.proofs.Windows.{no_time_passes_more}
use Rattle.rate_policer.proofs.conforming.no_window_passes_more.Goals as goal

pub returns-clause-moments : goal.returns-clause-moments
returns-clause-moments c = no_time_passes_more
