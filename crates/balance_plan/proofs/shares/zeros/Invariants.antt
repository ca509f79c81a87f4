use Rattle.std.proofs.Common.{◌≡◌, []}
use Rattle.balance_plan.specs.Loads.{loads_of}
use Rattle.balance_plan.proofs.shares.zeros.Given as goal

abbrev pub invariant-loop : goal.invariant-loop
invariant-loop l = l.totals.items ≡ loads_of l.counter []
