-- The forms of arguments: which text a value has, and which value a text is.
use Rattle.std.proofs.Common.{◌≡◌, ℕ, zero, suc, nat_le, ◌^◌, ◌<◌, ◌≤◌, ◌==◌, ◌&&◌, Bool, true, false, List, [], ◌∷◌, length, get_or, All, refl, sym, ap, ◌∙◌, arith, Option, Some, None, cond}
use Rattle.std.specs.Prelude.{decimal}
use Rattle.std.specs.Char.{is_ascii_digit, IsAsciiDigit}
use Rattle.std.specs.Int.{w32, to_be_bytes, from_be_bytes}
use Rattle.std.specs.List.{list_all}
use Rattle.std.specs.Option.{option_map}
use Rattle.std.proofs.lemmas.Bool.Decides.{nat_tests}
use Rattle.std.proofs.lemmas.List.{length-map}
use Rattle.std.proofs.lemmas.List.Sums.{list_all-from_AllPass, AllPass-from_list_all}
use Rattle.std.proofs.lemmas.Nat.{be_bytes_4, from_be_bytes-to_be_bytes_4}
use Rattle.hex.specs.Hex.{encode_lower, lower_digits}
use Rattle.hex.proofs.HexLemmas.{length-encode_with}
use Rattle.pc_base.specs.Imsi.{IsImsi}
use Rattle.text_fields.specs.Number.{number_in}
use Rattle.text_fields.specs.Address.{dotted, address_of}
use Rattle.text_fields.specs.Hexadecimal.{lower, in_lower_case, octets_of}
use Rattle.text_fields.proofs.CutLemmas.{get_or-default}
use Rattle.text_fields.proofs.DigitLemmas.{number_read, number_only}
use Rattle.text_fields.proofs.AddressLemmas.{address_read, address_only}
use Rattle.text_fields.proofs.HexadecimalLemmas.{octets_read, octets_only, bytes_from_all}
use Rattle.text_fields.proofs.PlainLemmas.{IsLow, IsField, all_plain, kept, from_lowered, low_decimal, low_address, field-encode_lower}
use Rattle.trace_lines.specs.Arguments.{imsi_of, teid_of}
use Rattle.trace_lines.specs.Line.{IsOctets}

-- numbers
pub number_taken : (least last n : ℕ) (text : List ℕ) → n < 2 ^ 64 → least ≤ n → n ≤ last
    → in_lower_case text ≡ decimal n
    → number_in least last text ≡ Some n
number_taken least last n text fits low high same =
    ap (number_in least last) (from_lowered text (decimal n) same (low_decimal n fits))
    ∙ number_read least last n fits low high

pub number_given : (least last n : ℕ) (text : List ℕ) → last < 2 ^ 64 → number_in least last text ≡ Some n
    → (in_lower_case text ≡ decimal n) × (least ≤ n) × (n ≤ last)
number_given least last n text fits read =
    let only = number_only least last n text fits read in
    (ap in_lower_case only.0 ∙ kept (decimal n) (all_plain (decimal n) (low_decimal n (omega arith))), only.1, only.2)

-- an IMSI
low_imsi : (digits : List ℕ) → IsImsi digits → All IsLow digits
low_imsi digits imsi k d inside =
    let digit : IsAsciiDigit (get_or digits k d) = imsi.2 k d inside in (grind arith, grind arith)

pub field-imsi : (digits : List ℕ) → IsImsi digits → IsField digits
field-imsi digits imsi = record { some = omega (arith, imsi.0); plain = all_plain digits (low_imsi digits imsi) }

is_digit : (c : ℕ) → IsAsciiDigit c → is_ascii_digit c ≡ true
is_digit c digit = grind (arith, nat_tests)

digit_is : (c : ℕ) → is_ascii_digit c ≡ true → IsAsciiDigit c
digit_is c digit = grind (arith, nat_tests)

all_digits : (text : List ℕ) → All IsAsciiDigit text → list_all is_ascii_digit text ≡ true
all_digits text digits =
    list_all-from_AllPass is_ascii_digit text (λ k d inside. is_digit (get_or text k d) (digits k d inside))

pub imsi_is : (text : List ℕ) → IsImsi text → imsi_of text ≡ Some text
imsi_is text imsi = let all =
    all_digits text imsi.2 in let low = imsi.0 in let high = imsi.1 in grind (arith, nat_tests)

pub imsi_taken : (text digits : List ℕ) → IsImsi digits → in_lower_case text ≡ digits → imsi_of text ≡ Some digits
imsi_taken text digits imsi same =
    ap imsi_of (from_lowered text digits same (low_imsi digits imsi)) ∙ imsi_is digits imsi

-- a test that chose the value
chosen : {A : Type 0} (b : Bool) (value x : A) → cond b (Some value) None ≡ Some x → (b ≡ true) × (value ≡ x)
chosen true value x read = (refl, cc)
chosen false value x read = cc

imsi_from_tests : (text : List ℕ) → list_all is_ascii_digit text ≡ true → 6 ≤ length text → length text ≤ 15
    → IsImsi text
imsi_from_tests text digits low high =
    let all = AllPass-from_list_all is_ascii_digit text digits in
    (low, high, λ k d inside. digit_is (get_or text k d) (all k d inside))

pub imsi_given : (text digits : List ℕ) → imsi_of text ≡ Some digits → (in_lower_case text ≡ digits) × IsImsi digits
imsi_given text digits read =
    let test = chosen (list_all is_ascii_digit text && (nat_le 6 (length text) && nat_le (length text) 15)) text
    digits read in
    let passed = test.0 in
    let all : list_all is_ascii_digit text ≡ true = grind (arith, nat_tests) in
    let low : 6 ≤ length text = grind (arith, nat_tests) in
    let high : length text ≤ 15 = grind (arith, nat_tests) in
    let imsi = imsi_from_tests text all low high in
    let lowered = kept text (all_plain text (low_imsi text imsi)) in
    let same : text ≡ digits = test.1 in
    rw (← same) (lowered, imsi)

-- an address
pub address_taken : (text : List ℕ) (address : ℕ) → address < 2 ^ 32 → in_lower_case text ≡ dotted address
    → address_of text ≡ Some address
address_taken text address fits same =
    ap address_of (from_lowered text (dotted address) same (low_address address fits)) ∙ address_read address fits

pub address_given : (text : List ℕ) (address : ℕ) → address_of text ≡ Some address
    → (in_lower_case text ≡ dotted address) × (address < 2 ^ 32)
address_given text address read =
    let only = address_only address text read in
    (ap in_lower_case only.0 ∙ kept (dotted address) (all_plain (dotted address) (low_address address only.1)), only.1)

-- octets
pub octets_taken : (text octets : List ℕ) → IsOctets octets → in_lower_case text ≡ encode_lower octets
    → octets_of text ≡ Some octets
octets_taken text octets is same = octets_read text octets is.0 is.1 same

pub octets_given : (text octets : List ℕ) → octets_of text ≡ Some octets
    → (in_lower_case text ≡ encode_lower octets) × IsOctets octets
octets_given text octets read = let only = octets_only text octets read in (only.0, (only.1, only.2))

-- a TEID
byte_fits : (n i : ℕ) → get_or (to_be_bytes w32 n) i 0 < 256
byte_fits n zero = omega arith
byte_fits n (suc zero) = omega arith
byte_fits n (suc (suc zero)) = omega arith
byte_fits n (suc (suc (suc zero))) = omega arith
byte_fits n (suc (suc (suc (suc i)))) = omega arith

pub are_octets : (teid : ℕ) → IsOctets (to_be_bytes w32 teid)
are_octets teid = (
  omega arith,
  λ k d inside. rw (get_or-default (to_be_bytes w32 teid) k d inside) (byte_fits teid k),
)

pub field-teid : (teid : ℕ) → IsField (encode_lower (to_be_bytes w32 teid))
field-teid teid = field-encode_lower (to_be_bytes w32 teid) (are_octets teid).0 (are_octets teid).1

teid_from : (text octets : List ℕ) → length text ≡ 8 → octets_of text ≡ Some octets
    → teid_of text ≡ Some (from_be_bytes w32 octets)
teid_from text octets eight read =
    ap (λ n. cond (n == 8) (option_map (λ o. from_be_bytes w32 o) (octets_of text)) None) eight
    ∙ ap (λ (o : Option (List ℕ)). option_map (λ o. from_be_bytes w32 o) o) read

pub teid_taken : (text : List ℕ) (teid : ℕ) → teid < 2 ^ 32 → in_lower_case text ≡ encode_lower (to_be_bytes w32 teid)
    → teid_of text ≡ Some teid
teid_taken text teid fits same =
    let read = octets_taken text (to_be_bytes w32 teid) (are_octets teid) same in
    let lengths = ap length same in
    let eight : length text ≡ 8 = omega (
      arith,
      length-map text lower,
      length-encode_with lower_digits (to_be_bytes w32 teid),
      lengths,
    ) in
    teid_from text (to_be_bytes w32 teid) eight read ∙ ap Some (from_be_bytes-to_be_bytes_4 teid fits)

-- four octets and the number that they are
word_fits : (octets : List ℕ) → length octets ≡ 4 → All (λ octet. octet < 256) octets
    → from_be_bytes w32 octets < 2 ^ 32
word_fits (a ∷ b ∷ c ∷ d ∷ []) four all =
    let first = all 0 0 (omega arith) in
    let second = all 1 0 (omega arith) in
    let third = all 2 0 (omega arith) in
    let fourth = all 3 0 (omega arith) in
    omega arith
word_fits octets four all = absurd (omega arith)

four_octets : (text octets : List ℕ) → length text ≡ 8 → in_lower_case text ≡ encode_lower octets → length octets ≡ 4
four_octets text octets eight same =
    omega (arith, length-map text lower, length-encode_with lower_digits octets, ap length same)

chosen_map : (b : Bool) (octets : Option (List ℕ)) (x : ℕ)
    → cond b (option_map (λ o. from_be_bytes w32 o) octets) None ≡ Some x
    → (o : List ℕ) × (b ≡ true) × (octets ≡ Some o) × (from_be_bytes w32 o ≡ x)
chosen_map true (Some o) x read = (o, refl, refl, cc)
chosen_map true None x read = cc
chosen_map false octets x read = cc

eight_digits : (text : List ℕ) (teid : ℕ) → teid_of text ≡ Some teid
    → (octets : List ℕ) × (length text ≡ 8) × (octets_of text ≡ Some octets) × (from_be_bytes w32 octets ≡ teid)
eight_digits text teid read =
    let test = chosen_map (length text == 8) (octets_of text) teid read in
    let passed = test.1 in
    (test.0, grind (arith, nat_tests), test.2, test.3)

pub teid_given : (text : List ℕ) (teid : ℕ) → teid_of text ≡ Some teid
    → (in_lower_case text ≡ encode_lower (to_be_bytes w32 teid)) × (teid < 2 ^ 32)
teid_given text teid read =
    let digits = eight_digits text teid read in
    let given = octets_given text digits.0 digits.2 in
    let four = four_octets text digits.0 digits.1 given.0 in
    let word : from_be_bytes w32 digits.0 ≡ teid = digits.3 in
    let bytes = be_bytes_4 digits.0 teid four (bytes_from_all digits.0 given.1.1) (sym word) in
    let small = word_fits digits.0 four given.1.1 in
    (given.0 ∙ ap encode_lower (sym bytes), omega arith)
