use Rattle.std.proofs.Common.{◌≡◌, ◌++◌, ◌-◌, length}
use Rattle.balance_plan.specs.Plan.{plan_of}
use Rattle.balance_plan.specs.Shares.{HasShares}
use Rattle.balance_plan.proofs.planning.plan.Given as goal

abbrev pub invariant-loop : goal.invariant-loop
invariant-loop l = record {
  shares : HasShares l.shares l.slices;
  many : length l.shares.totals.items ≡ l.slices;
  planned : l.planned.items ++ plan_of l.slices (l.most - l.counter) l.shares.loads.items
      ≡ plan_of l.slices l.most l.loads;
}
