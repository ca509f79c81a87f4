-- Sources and sinks over memory: what they hold, and which calls fail.
use Rattle.std.specs.Prelude.{ℕ, ◌+◌, ◌-◌, ◌^◌, List, min}

-- a count that stays at the end of its type
abbrev pub counted : ℕ → ℕ
counted count = min (count + 1) (2 ^ 64 - 1)

-- what is left, the most octets that a read gives, the numbers of the calls that fail, the number
-- of calls so far, and how many failed
pub record Supply : Type 0 where
  pub left : List ℕ
  pub piece : ℕ
  pub fail_at : List ℕ
  pub calls : ℕ
  pub faults : ℕ

-- what was written, how much may be, the most octets that a write takes, the numbers of the calls
-- that fail, the number of calls so far, and how many failed
pub record Store : Type 0 where
  pub written : List ℕ
  pub room : ℕ
  pub piece : ℕ
  pub fail_at : List ℕ
  pub calls : ℕ
  pub faults : ℕ

-- the first octets that were written, and how many may be kept
pub record Keeper : Type 0 where
  pub kept : List ℕ
  pub room : ℕ
