-- What is printed is ASCII.
use Rattle.std.proofs.Common.{◌≡◌, ℕ, true, List, [], ◌∷◌, All, refl, arith}
use Rattle.std.specs.Char.{IsAsciiDigit, is_ascii}
use Rattle.std.specs.List.{list_all}
use Rattle.std.specs.Str.{IsAscii}
use Rattle.std.proofs.lemmas.Bool.{and_parts}
use Rattle.std.proofs.lemmas.Bool.Decides.{nat_tests}
use Rattle.std.proofs.lemmas.List.Elements.{All-head, All-tail}
use Rattle.std.proofs.lemmas.Str.Ascii.{IsAscii-nil, IsAscii-cons}
use Rattle.hex.specs.Hex.{lower_digits}

pub IsAscii-digits : (digits : List ℕ) → All IsAsciiDigit digits → IsAscii digits
IsAscii-digits [] all = IsAscii-nil
IsAscii-digits (digit ∷ rest) all =
    IsAscii-cons digit rest (omega (arith, All-head IsAsciiDigit digit rest all))
    (IsAscii-digits rest (All-tail IsAsciiDigit digit rest all))

IsAscii-from_test : (octets : List ℕ) → list_all is_ascii octets ≡ true → IsAscii octets
IsAscii-from_test [] all = IsAscii-nil
IsAscii-from_test (octet ∷ rest) all =
    let parts = and_parts (is_ascii octet) (list_all is_ascii rest) all in
    IsAscii-cons octet rest (grind (arith, nat_tests, parts.0)) (IsAscii-from_test rest parts.1)

pub IsAscii-lower_digits : IsAscii lower_digits
IsAscii-lower_digits = IsAscii-from_test lower_digits refl
