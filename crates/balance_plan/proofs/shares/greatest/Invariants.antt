use Rattle.std.proofs.Common.{nat_lt}
use Rattle.std.specs.List.{IsFirstBest}
use Rattle.balance_plan.proofs.shares.greatest.Given as goal

abbrev pub invariant-loop-i : goal.invariant-loop-i
invariant-loop-i l = IsFirstBest (λ one other. nat_lt other one) l.numbers l.i l.best
