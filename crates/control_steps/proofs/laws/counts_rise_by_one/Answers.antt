use Rattle.control_steps.proofs.RiseLemmas.{counts_rise}
use Rattle.control_steps.proofs.laws.counts_rise_by_one.Goals as goal

pub returns : goal.returns
returns c = counts_rise
