use Rattle.std.proofs.Common.{◌≡◌, length}
use Rattle.charging_book.specs.Parts.{are_parts}
use Rattle.charging_book.proofs.accounts.parts.are_parts.Given as goal

-- what is left decides
abbrev pub invariant-loop-first : goal.invariant-loop-first
invariant-loop-first l = are_parts l.pieces ≡ are_parts l.left

abbrev pub decreases-loop-first : goal.decreases-loop-first
decreases-loop-first l = length l.left
