use Rattle.std.proofs.Common.{◌≡◌, take}
use Rattle.balance_plan.specs.Loads.{loads_of}
use Rattle.balance_plan.proofs.shares.totals_of.Given as goal

abbrev pub invariant-loop-load : goal.invariant-loop-load
invariant-loop-load l = l.totals.items ≡ loads_of l.slices (take l.load-index l.loads)
