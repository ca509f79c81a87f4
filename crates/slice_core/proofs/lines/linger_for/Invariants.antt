use Rattle.slice_core.specs.Lines.{Pumps}
use Rattle.slice_core.proofs.lines.linger_for.Given as goal

abbrev pub invariant-loop-times : goal.invariant-loop-times
invariant-loop-times g l = Pumps l.fn.front l.front
