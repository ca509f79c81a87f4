use Rattle.std.proofs.Common.{◌≡◌, ℕ, ◌<◌, get_or, length}
use Rattle.balance_plan.proofs.packets.zeros.Given as goal

abbrev pub invariant-loop : goal.invariant-loop
invariant-loop l = record {
  many : length l.counts.items ≡ l.counter;
  each : (k : ℕ) → k < l.counter → get_or l.counts.items k 0 ≡ 0;
}
