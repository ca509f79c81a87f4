-- How many elements at the front pass a test, as a loop finds it.
use Rattle.std.proofs.Common.{◌≡◌, ℕ, ◌+◌, Bool, List, drop}
use Rattle.std.specs.List.{prefix_len}

-- so many passed, and the rest is ahead
pub record Passed {X : Type 0} (p : X → Bool) (xs : List X) (i : ℕ) : Type 0 where
  pub ahead : i + prefix_len p (drop i xs) ≡ prefix_len p xs
