use Rattle.std.proofs.Common.{◌≡◌}
use Rattle.balance_plan.proofs.LoadLemmas.{loads_read}
use Rattle.balance_plan.proofs.writing.Writer.loads.Given as goal

abbrev pub invariant-loop-slot : goal.invariant-loop-slot
invariant-loop-slot l = l.loads.items ≡ loads_read l.self.bound.items l.counts.items l.slot
