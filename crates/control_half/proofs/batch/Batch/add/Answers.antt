use Rattle.std.proofs.Common.{subst, sym}
use Rattle.control_half.specs.Consecutive.{AreConsecutive}
use Rattle.control_half.proofs.Runs.{consecutive_more}
use Rattle.control_half.proofs.batch.Batch.add.Goals as goal

pub invariant_of-self-clause-consecutive : goal.invariant_of-self-clause-consecutive
invariant_of-self-clause-consecutive g c =
    subst (AreConsecutive g.V.Numbered.number_of) (sym c.push_reserved.ensures.items)
    (consecutive_more g.V.Numbered.number_of _ c.args.version c.args.self.now.consecutive c.requires)
