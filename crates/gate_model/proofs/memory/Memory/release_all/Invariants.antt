use Rattle.std.proofs.Common.{◌≡◌, take}
use Rattle.std.specs.List.{fold}
use Rattle.packet_steps.specs.Change.{released}
use Rattle.gate_model.specs.Memory.{past_at}
use Rattle.gate_model.proofs.memory.Memory.release_all.Given as goal

-- what the packets that were looked at have brought
abbrev pub invariant-loop-row : goal.invariant-loop-row
invariant-loop-row l =
    fold released (past_at l.version l.fn.self, l.fn.effects.items) (take l.row-index l.rows)
    ≡ (past_at l.version l.self, l.effects.items)
