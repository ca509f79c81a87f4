-- Octets as texts of hexadecimal digits, two for each octet. The text of octets is `encode_lower` of hex.
use Rattle.std.specs.Prelude.{ℕ, ◌+◌, ◌&&◌, not, nat_le, if◌then◌else◌, Bool, List, map, Option, None}
use Rattle.std.specs.List.{list_any}
use Rattle.std.specs.Result.{result_ok}
use Rattle.hex.specs.Hex.{decode_of, is_hex_digit}
use Rattle.text_fields.specs.Fields.{is_empty}

-- `A` to `F`
abbrev pub is_upper : ℕ → Bool
is_upper digit = nat_le 65 digit && nat_le digit 70

-- `A` to `F` in lower case; every other octet stays
abbrev pub lower : ℕ → ℕ
lower digit = if is_upper digit then digit + 32 else digit

abbrev pub in_lower_case : List ℕ → List ℕ
in_lower_case text = map lower text

-- `0` to `9` and `a` to `f`
abbrev pub is_lower_digit : ℕ → Bool
is_lower_digit octet = is_hex_digit octet && not (is_upper octet)

-- the octets that a text is, in either case and at least one
abbrev pub octets_of : List ℕ → Option (List ℕ)
octets_of text = if is_empty text then None else result_ok (decode_of text)

-- the octets that a text in lower case is
abbrev pub lower_octets_of : List ℕ → Option (List ℕ)
lower_octets_of text = if list_any is_upper text then None else octets_of text
