-- Hexadecimal digits and octets sixteen at a time: what each lane of a vector is, and what a block is.
use Rattle.std.specs.Prelude.{ℕ, ◌+◌, ◌-◌, ◌*◌, ◌/◌, ◌%◌, nat_lt, min, bit_and, Bool, List, [], ◌∷◌, map, slice_index}
use Rattle.std.specs.List.{list_all}
use Rattle.hex.specs.Hex.{lower_digits}

-- the value of a digit, and 16 or more where it is none: `0` to `9` are 48 to 57, and the letters are 65 to 70 once
-- the bit of their case is away
abbrev pub value_of : ℕ → ℕ
value_of digit = min (((digit + 198) % 256 - 6 + 16) % 256) (min 255 (10 + (bit_and digit 223 + 191) % 256))

abbrev pub values_of : List ℕ → List ℕ
values_of digits = map value_of digits

-- whether a value is that of a digit
abbrev pub is_small : ℕ → Bool
is_small value = nat_lt value 16

abbrev pub are_small : List ℕ → Bool
are_small values = list_all is_small values

-- each two values as an octet
abbrev pub packed : List ℕ → List ℕ
packed [] = []
packed (high ∷ []) = []
packed (high ∷ low ∷ values) = (high * 16 % 256 + low) % 256 ∷ packed values

-- the two digits of each octet
abbrev pub high_digit : ℕ → ℕ
high_digit octet = slice_index lower_digits (octet / 16)

abbrev pub low_digit : ℕ → ℕ
low_digit octet = slice_index lower_digits (octet % 16)
