use Rattle.trace_lines.proofs.AloneLemmas.{meant_alone}
use Rattle.trace_lines.proofs.laws.lines_mean_alone.Goals as goal

pub returns : goal.returns
returns c least number text = meant_alone least number text
