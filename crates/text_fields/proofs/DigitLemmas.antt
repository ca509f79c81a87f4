-- Decimal texts and the numbers that they write.
use Rattle.std.proofs.Common.{◌≡◌, ℕ, ◌+◌, ◌*◌, ◌^◌, ◌%◌, ◌<◌, ◌≤◌, ◌-◌, Bool, true, false, List, length, get_or, add-one, refl, sym, ap, ◌∙◌, arith, take, rules, nat_le, Some, None, inl, inr, cond, ◌&&◌}
use Rattle.std.specs.Char.{is_ascii_digit, digit_value}
use Rattle.std.specs.Int.{IsInRange}
use Rattle.std.specs.List.{list_all}
use Rattle.std.specs.Str.Parse.{digits_value}
use Rattle.std.proofs.lemmas.Bool.Decides.{nat_tests}
use Rattle.std.proofs.lemmas.Int.Digits.{digits_value_more}
use Rattle.std.proofs.lemmas.Str.Parse.{IsNumeralModel, numerals_by_value, digits_value-take-le, digit_at}
use Rattle.std.proofs.lemmas.Bool.{cases_eq, and_from}
use Rattle.std.proofs.lemmas.List.Folds.{list_all_more}
use Rattle.std.proofs.Math.Nat.{pow-suc, pow-le-pow_right}
use Rattle.std.proofs.lemmas.Fmt.{decimal_is_IsNumeral, decimal_nonempty, first_decimal, decimal_digit, decimal-digits_value}
use Rattle.std.specs.Fmt.{decimal}
use Rattle.text_fields.specs.Number.{has_leading_zero, is_decimal, number_in}

-- the digits of the code's test
pub own : IsNumeralModel (λ digits. list_all is_ascii_digit digits ≡ true) (digits_value 10)
own = numerals_by_value _ (search rules)

-- the digit at a place stays within 0 to 9
pub digit_in_range : (digits : List ℕ) (i : ℕ) → list_all is_ascii_digit digits ≡ true → i < length digits
    → IsInRange 48 57 (get_or digits i 0)
digit_in_range digits i all inside = digit_at digits i (own.to digits all) inside

-- one digit more
pub one_digit_more : (digits : List ℕ) (i : ℕ) → list_all is_ascii_digit digits ≡ true → i < length digits
    → digits_value 10 (take (i + 1) digits) ≡ digits_value 10 (take i digits) * 10 + (get_or digits i 0 - 48)
one_digit_more digits i all inside =
    let range = digit_in_range digits i all inside in
    let digit : digit_value (get_or digits i 0) ≡ get_or digits i 0 - 48 = grind (arith, nat_tests) in
    digits_value_more 10 digits i inside ∙ ap (λ d. digits_value 10 (take i digits) * 10 + d) digit

-- what digits in front write is no more than what all write
pub more_at_least : (digits : List ℕ) (i : ℕ) → list_all is_ascii_digit digits ≡ true → i < length digits
    → digits_value 10 (take i digits) * 10 + (get_or digits i 0 - 48) ≤ digits_value 10 digits
more_at_least digits i all inside =
    omega (arith, one_digit_more digits i all inside, digits_value-take-le 10 digits (i + 1) (omega arith))

-- an octet less `0`, as it is computed
pub is_digit : (octet : ℕ) → octet < 256 → (octet + 208) % 256 ≤ 9
    → (is_ascii_digit octet ≡ true) × (digit_value octet ≡ (octet + 208) % 256)
is_digit octet fits small =
    let low : 48 ≤ octet = omega arith in
    let high : octet ≤ 57 = omega arith in
    let less : (octet + 208) % 256 ≡ octet - 48 = omega arith in
    let digit : digit_value octet ≡ octet - 48 = grind (arith, nat_tests) in
    (grind (arith, nat_tests), digit ∙ sym less)

-- one digit more of a short text
pub record Counted (text : List ℕ) (number i : ℕ) : Type 0 where
  pub digits : list_all is_ascii_digit (take i text) ≡ true
  pub value : number ≡ digits_value 10 (take i text)
  pub small : number < 10 ^ i

pub counted_more : (text : List ℕ) (number i value : ℕ) → list_all is_ascii_digit (take i text) ≡ true
    → number ≡ digits_value 10 (take i text) → number < 10 ^ i → i < length text → get_or text i 0 < 256
    → value ≡ (get_or text i 0 + 208) % 256 → value ≤ 9 → Counted text (number * 10 + value) (i + 1)
counted_more text number i value all is small inside fits value_is few =
    let digit = is_digit (get_or text i 0) fits (omega arith) in
    let ten : 10 ^ (i + 1) ≡ 10 ^ i * 10 = ap (λ n. 10 ^ n) (add-one i) ∙ pow-suc 10 i in
    record {
      digits = list_all_more is_ascii_digit text i 0 inside
          ∙ and_from (list_all is_ascii_digit (take i text)) (is_ascii_digit (get_or text i 0)) all digit.0;
      value = sym (digits_value_more 10 text i inside ∙ ap (λ d. digits_value 10 (take i text) * 10 + d) (digit.1 ∙ sym value_is)
          ∙ ap (λ n. n * 10 + value) (sym is));
      small = omega (arith, ten);
    }

pub short_fits : (number i : ℕ) → i < 18 → number < 10 ^ i → number < 10 ^ 17
short_fits number i few small =
    omega (arith, pow-le-pow_right {n = 10} (omega arith) {i = i} {j = 17} (omega arith))

-- what `decimal` writes is a number's text
begins_above_zero : (n : ℕ) → n < 2 ^ 64 → has_leading_zero (decimal n) ≡ false
begins_above_zero n small =
    elim (cases_eq n 0) [
      | inl none ↦ ap has_leading_zero (ap decimal none ∙ decimal_digit 0 (omega arith))
      | inr above ↦ let first = first_decimal n (omega arith) small in grind (arith, nat_tests)
    ]

pub number_read : (least last n : ℕ) → n < 2 ^ 64 → least ≤ n → n ≤ last → number_in least last (decimal n) ≡ Some n
number_read least last n small low high =
    let digits : list_all is_ascii_digit (decimal n) ≡ true = own.from (decimal n) (decimal_is_IsNumeral n small).0.1 in
    let some = decimal_nonempty n small in
    let first = begins_above_zero n small in
    let value : digits_value 10 (decimal n) ≡ n = (decimal_is_IsNumeral n small).1 in
    grind (arith, nat_tests)

-- a test that chose the number
chosen : (b : Bool) (value n : ℕ) → cond b (Some value) None ≡ Some n → (b ≡ true) × (value ≡ n)
chosen true value n read = (refl, cc)
chosen false value n read = cc

pub number_only : (least last n : ℕ) (text : List ℕ) → last < 2 ^ 64 → number_in least last text ≡ Some n
    → (text ≡ decimal n) × (least ≤ n) × (n ≤ last)
number_only least last n text fits read =
    let test = chosen (is_decimal text && (nat_le least (digits_value 10 text)
    && nat_le (digits_value 10 text) last)) (digits_value 10 text) n read in
    let passed = test.0 in
    let value : digits_value 10 text ≡ n = test.1 in
    let digits : list_all is_ascii_digit text ≡ true = grind (arith, nat_tests) in
    let some : 0 < length text = grind (arith, nat_tests) in
    let alone : get_or text 0 0 ≡ 48 → length text ≡ 1 = λ begins. grind (arith, nat_tests) in
    let low : least ≤ digits_value 10 text = grind (arith, nat_tests) in
    let high : digits_value 10 text ≤ last = grind (arith, nat_tests) in (
      sym (decimal-digits_value own text digits some alone (omega arith)) ∙ ap decimal value,
      omega arith,
      omega arith,
    )
