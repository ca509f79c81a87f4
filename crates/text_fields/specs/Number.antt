-- What number a text of decimal digits is. The text of a number is std's `decimal`.
use Rattle.std.specs.Prelude.{ℕ, ◌==◌, ◌&&◌, not, Bool, List, length}
use Rattle.std.specs.Prelude.{slice_index, nat_lt, nat_le, if◌then◌else◌, Option, Some, None}
use Rattle.std.specs.Char.{is_ascii_digit}
use Rattle.std.specs.List.{list_all}
use Rattle.std.specs.Str.Parse.{digits_value}

-- a 0 with something behind it
abbrev pub has_leading_zero : List ℕ → Bool
has_leading_zero text = nat_lt 1 (length text) && slice_index text 0 == 48

-- digits alone, at least one, without a leading zero
abbrev pub is_decimal : List ℕ → Bool
is_decimal text = nat_lt 0 (length text) && not (has_leading_zero text) && list_all is_ascii_digit text

-- the number that a text is, where it is one from `least` to `last`
abbrev pub number_in : ℕ → ℕ → List ℕ → Option ℕ
number_in least last text =
    if is_decimal text && (nat_le least (digits_value 10 text) && nat_le (digits_value 10 text) last)
    then Some (digits_value 10 text) else None
