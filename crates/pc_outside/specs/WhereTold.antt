-- What is said of octets that a source tells.
use Rattle.std.specs.Prelude.{ℕ, List, Option, None, Some}

-- This holds of the octets that a source had and of those that it has left. A source that told the former tells
-- the latter too; of one that didn't nothing is said.
abbrev pub WhereTold : Option (List ℕ) → Option (List ℕ) → (List ℕ → List ℕ → Type 0) → Type 0
WhereTold None now holds = Unit {0}
WhereTold (Some octets) None holds = ⊥
WhereTold (Some octets) (Some left) holds = holds octets left
