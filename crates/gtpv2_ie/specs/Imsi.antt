-- The digits of an IMSI (TS 29.274, 8.3): two an octet, the low nibble first. Behind an odd count
-- the last high nibble is 15.
use Rattle.std.specs.Prelude.{
  ℕ,
  ◌+◌,
  ◌-◌,
  ◌*◌,
  ◌/◌,
  ◌%◌,
  ◌≤◌,
  Bool,
  ◌&&◌,
  List,
  [],
  ◌∷◌,
  ◌++◌,
  length,
  Option,
  Some,
  None,
  if◌then◌else◌,
  ◌==◌,
  nat_lt,
  nat_le,
}
use Rattle.std.specs.List.{AllByRecursion}

-- the character of a digit is so much above its value
abbrev pub zero_character : ℕ
zero_character = 48

abbrev pub filler : ℕ
filler = 15

-- 6 to 15 digits
pub record IsImsi (digits : List ℕ) : Type 0 where
  pub least : 6 ≤ length digits
  pub most : length digits ≤ 15
  pub decimal : AllByRecursion (λ digit. (48 ≤ digit) × (digit ≤ 57)) digits

-- the octet of two nibbles
abbrev pub octet_of : ℕ → ℕ → ℕ
octet_of low high = 16 * high + low

-- the octets of digits
unfoldable pub imsi_octets : List ℕ → List ℕ
imsi_octets [] = []
imsi_octets (low ∷ []) = octet_of (low - zero_character) filler ∷ []
imsi_octets (low ∷ high ∷ digits) =
    octet_of (low - zero_character) (high - zero_character) ∷ imsi_octets digits

-- the first digit of an octet and the second, which only a last octet may lack
abbrev pub digit_pair : ℕ → Bool → Option (ℕ × Option ℕ)
digit_pair octet last =
    let low = octet % 16 in
    let high = octet / 16 in
    if nat_lt 9 low then None
    else if nat_le high 9 then Some (zero_character + low, Some (zero_character + high))
    else if high == filler && last then Some (zero_character + low, None)
    else None

abbrev pub second_digit : Option ℕ → List ℕ
second_digit None = []
second_digit (Some digit) = digit ∷ []

abbrev pub pair_digits : ℕ × Option ℕ → List ℕ
pair_digits pair = pair.0 ∷ second_digit pair.1

abbrev pub with_digits : List ℕ → Option (List ℕ) → Option (List ℕ)
with_digits prefix None = None
with_digits prefix (Some digits) = Some (prefix ++ digits)

abbrev pub with_pair : Option (ℕ × Option ℕ) → Option (List ℕ) → Option (List ℕ)
with_pair None digits = None
with_pair (Some pair) digits = with_digits (pair_digits pair) digits

-- the digits of octets
unfoldable pub digits_of : List ℕ → Option (List ℕ)
digits_of [] = Some []
digits_of (octet ∷ octets) = with_pair (digit_pair octet (length octets == 0)) (digits_of octets)

abbrev pub if_imsi : Option (List ℕ) → Option (List ℕ)
if_imsi None = None
if_imsi (Some digits) =
    if nat_le 6 (length digits) && nat_le (length digits) 15 then Some digits else None

-- the IMSI that octets spell
abbrev pub imsi_of : List ℕ → Option (List ℕ)
imsi_of octets = if_imsi (digits_of octets)
