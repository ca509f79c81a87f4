use Rattle.trace_lines.proofs.InputRanges.{of_octets}
use Rattle.trace_lines.proofs.laws.inputs_have_lines.Goals as goal

pub returns : goal.returns
returns c = of_octets
