use Rattle.std.proofs.Common.{◌≡◌, length}
use Rattle.packet_steps.specs.Rows.{in_order}
use Rattle.packet_steps.proofs.parts.in_order.Given as goal

-- what is left decides
abbrev pub invariant-loop-row : goal.invariant-loop-row
invariant-loop-row l = in_order 0 l.fn.last l.held ≡ in_order l.least l.fn.last l.left

abbrev pub decreases-loop-row : goal.decreases-loop-row
decreases-loop-row l = length l.left
