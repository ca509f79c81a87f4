use Rattle.std.proofs.Common.{◌≡◌, ◌*◌, ◌^◌, ◌≤◌, take}
use Rattle.rate_policer.specs.Conforming.{volume}
use Rattle.rate_policer.proofs.conforming.volume.Given as goal

-- the sum so far, and how large it can be
abbrev pub invariant-loop-cost : goal.invariant-loop-cost
invariant-loop-cost l = record {
  value : l.sum ≡ volume (take l.cost-index l.costs);
  bound : l.sum ≤ 2 ^ 64 * l.cost-index;
}
