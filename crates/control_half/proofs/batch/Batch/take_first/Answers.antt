use Rattle.std.proofs.Common.{subst, sym, arith}
use Rattle.control_half.specs.Consecutive.{AreConsecutive}
use Rattle.control_half.proofs.Runs.{consecutive_rest}
use Rattle.control_half.proofs.batch.Batch.take_first.Goals as goal

pub invariant_of-self-clause-consecutive : goal.invariant_of-self-clause-consecutive
invariant_of-self-clause-consecutive g c =
    subst (AreConsecutive g.V.Numbered.number_of) (sym c.remove.ensures.items)
    (consecutive_rest g.V.Numbered.number_of _ (omega arith) c.args.self.now.consecutive)
