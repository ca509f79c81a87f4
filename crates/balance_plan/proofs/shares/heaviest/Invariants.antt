use Rattle.balance_plan.specs.Shares.{IsHeaviest}
use Rattle.balance_plan.proofs.shares.heaviest.Given as goal

abbrev pub invariant-loop-i : goal.invariant-loop-i
invariant-loop-i l = IsHeaviest l.from l.gap l.loads l.i l.most l.place
