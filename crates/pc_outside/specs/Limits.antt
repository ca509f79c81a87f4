-- The limits of an input.
use Rattle.std.specs.Prelude.{ℕ, ◌^◌}

-- what ends a line
abbrev pub newline : ℕ
newline = 10

-- the most octets of a line, its newline aside
abbrev pub line_max : ℕ
line_max = 132000

-- how many octets of an input are looked at
abbrev pub input_max : ℕ
input_max = 2 ^ 40
