-- Hexadecimal texts: digits and octets both ways, in either case.
use Rattle.std.proofs.Common.{◌≡◌, ℕ, zero, suc, ◌+◌, ◌*◌, ◌/◌, ◌<◌, ◌≤◌, ◌%◌, ◌==◌, ◌&&◌, Bool, true, false, List, [], ◌∷◌, length, take, drop, map, slice_set, All, slice_index, refl, sym, ap, ◌∙◌, arith, inl, inr, Some, None, Ok, Err, Option, Result, if◌then◌else◌, nat_lt}
use Rattle.std.proofs.Math.Bool.{and_assoc}
use Rattle.std.proofs.lemmas.Bool.{and_parts, cases_lt, eqb-true}
use Rattle.std.proofs.lemmas.Bool.Decides.{nat_tests}
use Rattle.std.proofs.lemmas.List.{get_or_past, length-map}
use Rattle.std.proofs.lemmas.List.Sums.{list_all-from_AllPass}
use Rattle.std.proofs.lemmas.List.Folds.{list_all_more}
use Rattle.text_fields.proofs.CutLemmas.{get_or-default}
use Rattle.std.specs.List.{list_all}
use Rattle.std.specs.Result.{result_ok}
use Rattle.hex.specs.Hex.{IsBytes, decode_of, decode_pairs, digit_or_error, encode_lower, encode_with, lower_digits, hex_digit_value, is_hex_digit, pair_value, ◌>>=◌}
use Rattle.hex.specs.declared.error.FromHexError.{FromHexError}
use Rattle.hex.proofs.HexLemmas.{decode_of-ok, decode_of-even, length-encode_with}
use Rattle.hex.proofs.Pairs.{prepend, decode_step, decode_done}
use Rattle.text_fields.specs.Hexadecimal.{lower, in_lower_case, octets_of}

-- the test of one place of a table of digits, and of its first n places
abbrev is_computed : ℕ → Bool
is_computed value = slice_index lower_digits value == (if nat_lt value 10 then value + 48 else value + 87)

abbrev all_computed : ℕ → Bool
all_computed zero = true
all_computed (suc n) = is_computed n && all_computed n

computed_at : (n value : ℕ) → all_computed n ≡ true → value < n → is_computed value ≡ true
computed_at zero value all below = absurd (omega arith)
computed_at (suc n) value all below =
    let parts = and_parts (is_computed n) (all_computed n) all in
    elim (cases_lt value n) [
      | inl less ↦ computed_at n value parts.1 less
      | inr top ↦ let same : value ≡ n = omega arith in rw same parts.0
    ]

-- `0` to `9` are 48 to 57, `a` to `f` are 97 to 102
pub digit_computed : (value : ℕ) → value < 16 → slice_index lower_digits value
    ≡ (if nat_lt value 10 then value + 48 else value + 87)
digit_computed value below = eqb-true _ _ (computed_at 16 value refl below)

-- the octet of two digits
pub two_digits : (high low first second place : ℕ) → hex_digit_value high ≡ Some first
    → hex_digit_value low ≡ Some second
    → pair_value high low place ≡ Ok (first * 16 + second)
two_digits high low first second place is_first is_second = rw (is_first, is_second) refl

-- a digit in lower case is the digit of its value, and the other way round
lower_digit : (digit value : ℕ) → hex_digit_value digit ≡ Some value
    → (lower digit ≡ slice_index lower_digits value) × (value < 16)
lower_digit digit value is =
    let small : value < 16 = grind (arith, nat_tests) in
    let computed = digit_computed value small in
    (grind (arith, nat_tests), small)

value_of_lower : (digit value : ℕ) → value < 16 → lower digit ≡ slice_index lower_digits value
    → hex_digit_value digit ≡ Some value
value_of_lower digit value small is = let computed = digit_computed value small in grind (arith, nat_tests)

-- what a decoded pair and its rest were made of
record DigitPair (high low : ℕ) (behind : Result (List ℕ) FromHexError) (octets : List ℕ) : Type 0 where
  first : ℕ
  second : ℕ
  rest : List ℕ
  high_is : hex_digit_value high ≡ Some first
  low_is : hex_digit_value low ≡ Some second
  rest_is : behind ≡ Ok rest
  octets_are : octets ≡ (first * 16 + second) ∷ rest

parts : (high low at : ℕ) (h l : Option ℕ) (behind : Result (List ℕ) FromHexError) (octets : List ℕ)
    → hex_digit_value high ≡ h
    → hex_digit_value low ≡ l
    → (((digit_or_error high at h >>= (λ x. digit_or_error low (at + 1) l >>= (λ y. Ok (x * 16 + y)))) >>=
    (λ octet. behind >>= (λ rest. Ok (octet ∷ rest)))) ≡ Ok octets)
    → DigitPair high low behind octets
parts high low at (Some first) (Some second) (Ok rest) octets is_h is_l decoded = record {
  first = first;
  second = second;
  rest = rest;
  high_is = is_h;
  low_is = is_l;
  rest_is = refl;
  octets_are = cc;
}
parts high low at (Some first) (Some second) (Err why) octets is_h is_l decoded = cc
parts high low at (Some first) None behind octets is_h is_l decoded = cc
parts high low at None l behind octets is_h is_l decoded = cc

-- what decodes, in lower case, is the text of its octets
pairs_lower : (at : ℕ) (text octets : List ℕ) → decode_pairs at text ≡ Ok octets
    → map lower text ≡ encode_with lower_digits octets
unfolding decode_pairs encode_with
pairs_lower at [] octets decoded = let none : [] ≡ octets = cc in rw (← none) refl
pairs_lower at (digit ∷ []) octets decoded = cc
pairs_lower at (high ∷ low ∷ text) octets decoded =
    let p = parts high low at (hex_digit_value high) (hex_digit_value low)
    (decode_pairs (at + 2) text) octets refl refl decoded in
    let rest = pairs_lower (at + 2) text p.rest p.rest_is in
    let first = lower_digit high p.first p.high_is in
    let second = lower_digit low p.second p.low_is in
    let over : (p.first * 16 + p.second) / 16 ≡ p.first = omega arith in
    let under : (p.first * 16 + p.second) % 16 ≡ p.second = omega arith in
    rw (p.octets_are, over, under, first.0, second.0, rest) refl

-- a text that is, in lower case, that of octets decodes to them
lower_pairs : (at : ℕ) (text octets : List ℕ) → IsBytes octets → map lower text ≡ encode_with lower_digits octets
    → decode_pairs at text ≡ Ok octets
unfolding decode_pairs encode_with
lower_pairs at [] [] bytes same = refl
lower_pairs at [] (octet ∷ octets) bytes same = cc
lower_pairs at (digit ∷ []) [] bytes same = cc
lower_pairs at (digit ∷ []) (octet ∷ octets) bytes same = cc
lower_pairs at (high ∷ low ∷ text) [] bytes same = cc
lower_pairs at (high ∷ low ∷ text) (octet ∷ octets) bytes same =
    let fits : octet < 256 = bytes 0 in
    let first_same : lower high ≡ slice_index lower_digits (octet / 16) = cc in
    let second_same : lower low ≡ slice_index lower_digits (octet % 16) = cc in
    let rest_same : map lower text ≡ encode_with lower_digits octets = cc in
    let first = value_of_lower high (octet / 16) (omega arith) first_same in
    let second = value_of_lower low (octet % 16) (omega arith) second_same in
    let rest = lower_pairs (at + 2) text octets (λ k. bytes (suc k)) rest_same in
    let whole : octet / 16 * 16 + octet % 16 ≡ octet = omega arith in
    rw (first, second, rest, whole) refl

-- an octet that isn't there counts as 0
pub bytes_from_all : (octets : List ℕ) → All (λ octet. octet < 256) octets → IsBytes octets
bytes_from_all octets all i =
    elim (cases_lt i (length octets)) [
      | inl there ↦ all i 0 there
      | inr past ↦ omega (arith, get_or_past octets i 0 past)
    ]

-- the default for an octet past the end counts for none that is there
all_from_bytes : (octets : List ℕ) → IsBytes octets → All (λ octet. octet < 256) octets
all_from_bytes octets bytes k d inside = rw (get_or-default octets k d inside) (bytes k)

ok_from_some : (answer : Result (List ℕ) FromHexError) (octets : List ℕ) → result_ok answer ≡ Some octets
    → answer ≡ Ok octets
ok_from_some (Ok rest) octets is = let same : rest ≡ octets = cc in ap Ok same
ok_from_some (Err why) octets is = cc

pub octets_only : (text octets : List ℕ) → octets_of text ≡ Some octets
    → (in_lower_case text ≡ encode_lower octets) × (0 < length octets) × All (λ octet. octet < 256) octets
octets_only [] octets is = cc
octets_only (digit ∷ text) octets is =
    let decoded = ok_from_some (decode_of (digit ∷ text)) octets is in
    let good = decode_of-ok (digit ∷ text) octets decoded in
    let pairs = sym (decode_of-even (digit ∷ text) good.0) ∙ decoded in
    let twice : length (digit ∷ text) ≡ 2 * length octets = good.2 in
    (pairs_lower 0 (digit ∷ text) octets pairs, omega arith, all_from_bytes octets good.3)

pub read_some : (text octets : List ℕ) → 0 < length text → decode_of text ≡ Ok octets → octets_of text ≡ Some octets
read_some [] octets some decoded = absurd (omega arith)
read_some (digit ∷ text) octets some decoded = ap result_ok decoded

pub octets_read : (text octets : List ℕ) → 0 < length octets → All (λ octet. octet < 256) octets
    → in_lower_case text ≡ encode_lower octets → octets_of text ≡ Some octets
octets_read text octets some all same =
    let lengths = ap length same in
    let twice : length text ≡ 2 * length octets = omega (
      arith,
      length-map text lower,
      length-encode_with lower_digits octets,
      lengths,
    ) in
    read_some text octets (omega arith)
    (decode_of-even text (omega arith) ∙ lower_pairs 0 text octets (bytes_from_all octets all) same)

-- an octet that is no digit
true_or_false : true ≡ false → ⊥
true_or_false same = cc

refused : (text : List ℕ) → list_all is_hex_digit text ≡ false → (decoded : Result (List ℕ) FromHexError)
    → decode_of text ≡ decoded
    → result_ok decoded ≡ None
refused text bad (Ok octets) is =
    let all = list_all-from_AllPass is_hex_digit text (decode_of-ok text octets is).1 in
    absurd (true_or_false (sym all ∙ bad))
refused text bad (Err why) is = refl

pub no_octets : (text : List ℕ) → list_all is_hex_digit text ≡ false → octets_of text ≡ None
no_octets [] bad = refl
no_octets (octet ∷ text) bad = refused (octet ∷ text) bad (decode_of (octet ∷ text)) refl

-- two more digits are tested
pub two_tested : (digits : List ℕ) (place : ℕ) → 2 * place + 1 < length digits
    → list_all is_hex_digit (take (2 * (place + 1)) digits)
    ≡ (list_all is_hex_digit (take (2 * place) digits)
    && (is_hex_digit (slice_index digits (2 * place)) && is_hex_digit (slice_index digits (2 * place + 1))))
two_tested digits place inside =
    let two : 2 * (place + 1) ≡ 2 * place + 1 + 1 = omega arith in
    let second = list_all_more is_hex_digit digits (2 * place + 1) 0 inside in
    let first = list_all_more is_hex_digit digits (2 * place) 0 (omega arith) in
    rw (two, second, first) (and_assoc (list_all is_hex_digit (take (2 * place) digits))
    (is_hex_digit (slice_index digits (2 * place))) (is_hex_digit (slice_index digits (2 * place + 1))))

-- the octet of two digits, as it is computed
pub octet_computed : (first second : ℕ) → first < 16 → second < 16
    → (first * 16 % 256 + second) % 256 ≡ first * 16 + second
octet_computed first second high low = omega arith

-- one octet more is decoded
pub octet_decoded : (digits octets : List ℕ) (place : ℕ) (all : Bool) (first second : ℕ)
    → 2 * place + 1 < length digits → place < length octets
    → (is_hex_digit (slice_index digits (2 * place)) ≡ true
    → (hex_digit_value (slice_index digits (2 * place)) ≡ Some first) × (first < 16))
    → (is_hex_digit (slice_index digits (2 * place + 1)) ≡ true
    → (hex_digit_value (slice_index digits (2 * place + 1)) ≡ Some second) × (second < 16))
    → (all ≡ true → decode_pairs 0 digits ≡ prepend (take place octets)
    (decode_pairs (2 * place) (drop (2 * place) digits)))
    → (all && (is_hex_digit (slice_index digits (2 * place)) && is_hex_digit (slice_index digits (2 * place + 1))))
    ≡ true
    → decode_pairs 0 digits
    ≡ prepend (take (place + 1) (slice_set octets place ((first * 16 % 256 + second) % 256)))
    (decode_pairs (2 * (place + 1)) (drop (2 * (place + 1)) digits))
octet_decoded digits octets place all first second inside room high low before good =
    let both = and_parts all _ good in
    let two = and_parts (is_hex_digit (slice_index digits (2 * place)))
    (is_hex_digit (slice_index digits (2 * place + 1))) both.1 in
    let h = high two.0 in
    let l = low two.1 in
    rw (octet_computed first second h.1 l.1)
    (decode_step digits octets place (first * 16 + second) inside room
    (two_digits (slice_index digits (2 * place)) (slice_index digits (2 * place + 1)) first second (2 * place) h.0 l.0)
    (before both.0))

-- all octets are decoded
pub all_decoded : (digits octets : List ℕ) (place : ℕ) → length digits ≡ 2 * length octets → length octets ≤ place
    → decode_pairs 0 digits ≡ prepend (take place octets) (decode_pairs (2 * place) (drop (2 * place) digits))
    → decode_of digits ≡ Ok octets
all_decoded digits octets place twice past decoded =
    decode_of-even digits (omega arith) ∙ decode_done digits octets place past (omega arith) decoded
