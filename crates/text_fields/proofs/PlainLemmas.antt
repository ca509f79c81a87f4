-- Texts of values: in lower case, without a space, and not empty.
use Rattle.std.proofs.Common.{◌≡◌, ◌≢◌, ℕ, ◌/◌, ◌%◌, ◌^◌, ◌<◌, List, [], ◌∷◌, ◌++◌, length, length-append, get_or, map, All, refl, arith, slice_index}
use Rattle.std.specs.Prelude.{decimal}
use Rattle.std.specs.List.{join_with_byte}
use Rattle.std.proofs.lemmas.Bool.Decides.{nat_tests}
use Rattle.std.proofs.lemmas.Fmt.{decimal_is_IsNumeral, decimal_nonempty}
use Rattle.std.proofs.lemmas.List.Elements.{All-cons, All-head, All-tail, All-nil, All-append}
use Rattle.std.proofs.lemmas.Str.Parse.{digit_at}
use Rattle.hex.specs.Hex.{encode_lower, encode_with, lower_digits}
use Rattle.hex.proofs.HexLemmas.{length-encode_with}
use Rattle.text_fields.specs.Address.{dot, dotted}
use Rattle.text_fields.specs.Hexadecimal.{lower, in_lower_case}
use Rattle.text_fields.proofs.CutLemmas.{get_or-default}
use Rattle.text_fields.proofs.HexadecimalLemmas.{digit_computed}

-- an octet that stands in lower case and is no space; one of a number or of an address
abbrev pub IsPlain : ℕ → Type 0
IsPlain octet = (octet ≢ 32) × (lower octet ≡ octet)

abbrev pub IsLow : ℕ → Type 0
IsLow octet = (32 < octet) × (octet < 65)

pub low_is_plain : (octet : ℕ) → IsLow octet → IsPlain octet
low_is_plain octet low = (λ same. omega (arith, low.0, same), grind (arith, nat_tests))

pub all_plain : (text : List ℕ) → All IsLow text → All IsPlain text
all_plain text low k d inside = low_is_plain (get_or text k d) (low k d inside)

-- a text that isn't empty, in lower case and without a space
pub record IsField (text : List ℕ) : Type 0 where
  pub some : 0 < length text
  pub plain : All IsPlain text

pub kept : (text : List ℕ) → All IsPlain text → in_lower_case text ≡ text
kept [] plain = refl
kept (octet ∷ text) plain =
    let first = (All-head IsPlain octet text plain).1 in
    let rest = kept text (All-tail IsPlain octet text plain) in
    cc

-- what in lower case has no letters has none
unlowered : (octet other : ℕ) → lower octet ≡ other → IsLow other → octet ≡ other
unlowered octet other same low = grind (arith, nat_tests)

pub from_lowered : (text other : List ℕ) → in_lower_case text ≡ other → All IsLow other → text ≡ other
from_lowered [] [] same low = refl
from_lowered [] (octet ∷ other) same low = cc
from_lowered (octet ∷ text) [] same low = cc
from_lowered (octet ∷ text) (octet' ∷ other) same low =
    let head : lower octet ≡ octet' = cc in
    let tail : in_lower_case text ≡ other = cc in
    let first = unlowered octet octet' head (All-head IsLow octet' other low) in
    let rest = from_lowered text other tail (All-tail IsLow octet' other low) in
    cc

-- numbers
pub low_decimal : (n : ℕ) → n < 2 ^ 64 → All IsLow (decimal n)
low_decimal n fits k d inside =
    let range = digit_at (decimal n) k (decimal_is_IsNumeral n fits).0.1 inside in
    let default = get_or-default (decimal n) k d inside in
    (omega (arith, range, default), omega (arith, range, default))

pub field-decimal : (n : ℕ) → n < 2 ^ 64 → IsField (decimal n)
field-decimal n fits = record { some = decimal_nonempty n fits; plain = all_plain (decimal n) (low_decimal n fits) }

-- an address
low_dotted : (a b c d : ℕ) → a < 256 → b < 256 → c < 256 → d < 256
    → All IsLow (join_with_byte dot (map decimal (a ∷ b ∷ c ∷ d ∷ [])))
low_dotted a b c d fits_a fits_b fits_c fits_d =
    let dot_low : IsLow dot = (omega arith, omega arith) in
    All-append IsLow (decimal a) _ (low_decimal a (omega arith)) (All-cons IsLow dot _ dot_low
    (All-append IsLow (decimal b) _ (low_decimal b (omega arith)) (All-cons IsLow dot _ dot_low
    (All-append IsLow (decimal c) _ (low_decimal c (omega arith))
    (All-cons IsLow dot _ dot_low (low_decimal d (omega arith)))))))

pub low_address : (address : ℕ) → address < 2 ^ 32 → All IsLow (dotted address)
low_address address fits = low_dotted _ _ _ _ (omega arith) (omega arith) (omega arith) (omega arith)

some_behind : (n : ℕ) (rest : List ℕ) → n < 2 ^ 64 → 0 < length (decimal n ++ rest)
some_behind n rest fits = omega (arith, decimal_nonempty n fits, length-append (decimal n) rest)

pub field-dotted : (address : ℕ) → address < 2 ^ 32 → IsField (dotted address)
field-dotted address fits = record {
  some = some_behind _ _ (omega arith);
  plain = all_plain (dotted address) (low_address address fits);
}

-- octets
plain_digit : (value : ℕ) → value < 16 → IsPlain (slice_index lower_digits value)
plain_digit value small =
    let computed = digit_computed value small in (λ same. grind (arith, nat_tests), grind (arith, nat_tests))

plain_digits : (octets : List ℕ) → All (λ octet. octet < 256) octets → All IsPlain (encode_with lower_digits octets)
unfolding encode_with
plain_digits [] fits = All-nil IsPlain
plain_digits (octet ∷ octets) fits =
    let small : octet < 256 = fits 0 0 (omega arith) in
    let first = slice_index lower_digits (octet / 16) in
    let second = slice_index lower_digits (octet % 16) in
    let rest = encode_with lower_digits octets in
    All-cons IsPlain first (second ∷ rest) (plain_digit (octet / 16) (omega arith))
    (All-cons IsPlain second rest (plain_digit (octet % 16) (omega arith))
    (plain_digits octets (All-tail (λ o. o < 256) octet octets fits)))

-- each is one of `0` to `f`
digit_between : (value : ℕ) → value < 16
    → (47 < slice_index lower_digits value) × (slice_index lower_digits value < 103)
digit_between value small =
    let computed = digit_computed value small in (grind (arith, nat_tests), grind (arith, nat_tests))

pub digits_between : (octets : List ℕ) → All (λ octet. octet < 256) octets
    → All (λ digit. (47 < digit) × (digit < 103)) (encode_with lower_digits octets)
unfolding encode_with
digits_between [] fits = All-nil (λ digit. (47 < digit) × (digit < 103))
digits_between (octet ∷ octets) fits =
    let Between : ℕ → Type 0 = λ digit. (47 < digit) × (digit < 103) in
    let small : octet < 256 = fits 0 0 (omega arith) in
    let first = slice_index lower_digits (octet / 16) in
    let second = slice_index lower_digits (octet % 16) in
    let rest = encode_with lower_digits octets in
    All-cons Between first (second ∷ rest) (digit_between (octet / 16) (omega arith))
    (All-cons Between second rest (digit_between (octet % 16) (omega arith))
    (digits_between octets (All-tail (λ o. o < 256) octet octets fits)))

pub field-encode_lower : (octets : List ℕ) → 0 < length octets → All (λ octet. octet < 256) octets
    → IsField (encode_lower octets)
field-encode_lower octets some fits = record {
  some = omega (arith, some, length-encode_with lower_digits octets);
  plain = plain_digits octets fits;
}
