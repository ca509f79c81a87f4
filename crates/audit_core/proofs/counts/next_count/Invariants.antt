use Rattle.std.proofs.Common.{◌≡◌, ℕ, ◌+◌, ◌≤◌, drop}
use Rattle.lawful_run.specs.Accepted.{command_count}
use Rattle.lawful_run.specs.Moves.{before_next_move}
use Rattle.audit_core.specs.Meant.{lines_of}
use Rattle.audit_core.specs.Passing.{AreOf}
use Rattle.audit_core.proofs.counts.next_count.Given as goal

abbrev pub invariant-loop-told : goal.invariant-loop-told
invariant-loop-told l = record {
  count : (slot : ℕ) → AreOf slot (lines_of l.later)
      → l.count + command_count slot (before_next_move slot (drop l.told-index (lines_of l.later)))
      ≡ l.commands + command_count slot (before_next_move slot (lines_of l.later));
  few : l.count ≤ l.commands + l.told-index;
}
