use Rattle.check_fronts.specs.Stands.{Stands}
use Rattle.check_fronts.proofs.play_lines.Given as goal

abbrev pub invariant-loop-line : goal.invariant-loop-line
invariant-loop-line g l = Stands l.bench
