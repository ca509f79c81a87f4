use Rattle.std.proofs.Common.{ℕ, ◌<◌}
use Rattle.rate_policer.proofs.Looking.{FitsFrom}
use Rattle.rate_policer.proofs.conforming.conforms.Given as goal

abbrev pub invariant-loop-place : goal.invariant-loop-place
invariant-loop-place l = (place : ℕ) → place < l.place → FitsFrom l.fn.rate l.passed l.cost place
