use Rattle.std.proofs.Common.{arith, subst, sym, nat_lt}
use Rattle.std.specs.List.{IsFirstBest}
use Rattle.balance_plan.proofs.Choosing.{greatest_is}
use Rattle.balance_plan.proofs.shares.greatest.Goals as goal

pub returns-clause-place : goal.returns-clause-place
returns-clause-place c =
    sym (greatest_is c.args.numbers.now c.loop-i.best
    (subst (λ i. IsFirstBest (λ one other. nat_lt other one) c.args.numbers.now i c.loop-i.best) (omega arith)
    c.loop-i.invariant))
