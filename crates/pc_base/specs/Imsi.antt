-- The international mobile subscriber identity (TS 23.003, section 2.2).
use Rattle.std.specs.Prelude.{ℕ, ◌≤◌, List, length, All}
use Rattle.std.specs.Char.{IsAsciiDigit}

-- 6 to 15 ASCII digits
abbrev pub IsImsi : List ℕ → Type 0
IsImsi digits = (6 ≤ length digits) × (length digits ≤ 15) × All IsAsciiDigit digits
