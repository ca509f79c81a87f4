use Rattle.std.proofs.Common.{◌≡◌, ◌==◌, ℕ, ◌+◌, ◌<◌, count_by, get_or, length, take}
use Rattle.balance_plan.proofs.packets.add.Given as goal

abbrev pub invariant-loop-slot : goal.invariant-loop-slot
invariant-loop-slot l = record {
  many : length l.counts.items ≡ length l.fn.counts.items;
  each : (slot : ℕ) → slot < length l.fn.counts.items → get_or l.counts.items slot 0
      ≡ get_or l.fn.counts.items slot 0 + count_by (λ s. s == slot) (take l.slot-index l.slots);
}
