-- The order of ranks: it is transitive and total, and no rank is before itself.
use Rattle.std.proofs.Common.{◌≡◌, arith}
use Rattle.tft_match.specs.Choice.{Rank, IsBefore}

pub before_trans : (a b c : Rank) → IsBefore a b → IsBefore b c → IsBefore a c
before_trans a b c first second = grind arith

pub not_before_itself : (a : Rank) → ¬ IsBefore a a
not_before_itself a before = grind arith

pub same_from_neither : (a b : Rank) → ¬ IsBefore a b → ¬ IsBefore b a → a ≡ b
same_from_neither a b not_first not_second = grind arith
