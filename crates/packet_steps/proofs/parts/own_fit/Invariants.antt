use Rattle.std.proofs.Common.{◌≡◌, length}
use Rattle.packet_steps.specs.Parts.{own_fit}
use Rattle.packet_steps.proofs.parts.own_fit.Given as goal

-- what is left decides
abbrev pub invariant-loop-bearer : goal.invariant-loop-bearer
invariant-loop-bearer l = own_fit l.bearers l.buckets ≡ own_fit l.left l.rest

abbrev pub decreases-loop-bearer : goal.decreases-loop-bearer
decreases-loop-bearer l = length l.left
