use Rattle.std.proofs.Common.{arith, subst, sym, nat_lt}
use Rattle.std.specs.List.{IsFirstBest}
use Rattle.balance_plan.proofs.Choosing.{least_is}
use Rattle.balance_plan.proofs.shares.least.Goals as goal

pub returns-clause-place : goal.returns-clause-place
returns-clause-place c =
    sym (least_is c.args.numbers.now c.loop-i.best
    (subst (λ i. IsFirstBest nat_lt c.args.numbers.now i c.loop-i.best) (omega arith) c.loop-i.invariant))
