use Rattle.check_fronts.specs.Stands.{Stands}
use Rattle.check_fronts.proofs.turn_all.Given as goal

abbrev pub invariant-loop-worker : goal.invariant-loop-worker
invariant-loop-worker g l = Stands l.bench
