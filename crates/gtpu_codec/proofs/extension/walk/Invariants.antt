use Rattle.std.proofs.Common.{◌≡◌, ◌∷◌, length}
use Rattle.gtpu_codec.specs.Extension.{body_behind}
use Rattle.gtpu_codec.proofs.extension.walk.Given as goal

-- the body is still to be found
abbrev pub invariant-loop-next_type : goal.invariant-loop-next_type
invariant-loop-next_type l = body_behind 0 (l.next_type ∷ l.rest) ≡ body_behind 0 (l.fn.first_type ∷ l.octets)

abbrev pub decreases-loop-next_type : goal.decreases-loop-next_type
decreases-loop-next_type l = length l.rest
