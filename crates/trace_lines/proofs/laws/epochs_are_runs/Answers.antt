use Rattle.trace_lines.proofs.EpochLemmas.{are_epochs}
use Rattle.trace_lines.proofs.laws.epochs_are_runs.Goals as goal

pub returns : goal.returns
returns c lines = are_epochs lines
