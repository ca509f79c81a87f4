use Rattle.std.proofs.Common.{◌≡◌, ℕ, ◌+◌, List, length}
use Rattle.counter_half.specs.declared.items.DataItem.{DataItem}
use Rattle.front_core.specs.Ending.{CanEndAll}
use Rattle.front_core.specs.Placed.{AnswersBelow, HomesBelow}
use Rattle.front_core.proofs.Endings.{Ended}
use Rattle.front_core.proofs.finishing.finish_all.Given as goal

abbrev pub invariant-loop-place : goal.invariant-loop-place
invariant-loop-place g l = record {
  left : length l.lots.items + l.place ≡ length l.fn.lots.items;
  many : length l.subscribers ≡ length l.fn.subscribers;
  ended : (items : ℕ → List DataItem) → CanEndAll 0 items l.fn.lots.items l.fn.controls.items l.fn.homes.items
      → Ended items l.fn.lots.items l.place l.lots.items l.controls.items l.homes.items l.fn.subscribers l.subscribers l.told;
  below : (n : ℕ) → HomesBelow n l.fn.homes.items → HomesBelow n l.homes.items × AnswersBelow n l.told.answers.items;
}
