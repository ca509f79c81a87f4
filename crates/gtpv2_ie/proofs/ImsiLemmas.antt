-- The digits of an IMSI and its octets, one octet after the other.
use Rattle.std.proofs.Common.{◌≡◌, ℕ, suc, ◌+◌, ◌-◌, ◌*◌, ◌/◌, ◌%◌, ◌<◌, ◌≤◌, Bool, true, false, eqb, ltb, leb, cond, ◌&&◌, ◌⊎◌, inl, inr, List, [], ◌∷◌, ◌++◌, length, get_or, drop, Option, Some, None, refl, sym, ap, subst, ◌∙◌, append_assoc, arith, add-one, drop-cons, length-drop}
use Rattle.std.specs.List.{AllByRecursion}
use Rattle.std.proofs.Math.ListN.{drop_of_length-le}
use Rattle.std.proofs.lemmas.List.{append-nil}
use Rattle.std.proofs.lemmas.Bool.{cases_lt, ltb-false, leb-true, lt-ltb, le-ltb, le-leb}
use Rattle.std.proofs.lemmas.Bool.Decides.{nat_tests}
use Rattle.std.proofs.lemmas.Option.{cond_some}
use Rattle.gtpv2_ie.specs.Imsi.{octet_of, digit_pair, pair_digits, with_digits, with_pair, digits_of, imsi_octets, imsi_of, IsImsi}

-- an octet is the last exactly where none is behind it
last_octet : (octets : List ℕ) (i : ℕ) → i < length octets
    → eqb (length (drop (suc i) octets)) 0 ≡ eqb (i + 1) (length octets)
last_octet octets i inside = grind (arith, nat_tests, length-drop)

with_digits-append : (prefix more : List ℕ) (digits : Option (List ℕ))
    → with_digits (prefix ++ more) digits ≡ with_digits prefix (with_digits more digits)
with_digits-append prefix more None = refl
with_digits-append prefix more (Some digits) = ap Some (append_assoc prefix more digits)

-- the digits from one octet on
digits_of-drop : (octets : List ℕ) (i : ℕ) → i < length octets
    → digits_of (drop i octets)
    ≡ with_pair (digit_pair (get_or octets i 0) (eqb (i + 1) (length octets))) (digits_of (drop (i + 1) octets))
unfolding digits_of
digits_of-drop octets i inside =
    ap digits_of (drop-cons octets i 0 inside)
    ∙ ap (λ last. with_pair (digit_pair (get_or octets i 0) last) (digits_of (drop (suc i) octets)))
    (last_octet octets i inside)
    ∙ ap (λ k. with_pair (digit_pair (get_or octets i 0) (eqb (i + 1) (length octets))) (digits_of (drop k octets)))
    (sym (add-one i))

-- one octet's digits are put in front
pub one_octet : (prefix octets : List ℕ) (i : ℕ) (pair : ℕ × Option ℕ) → i < length octets
    → digit_pair (get_or octets i 0) (eqb (i + 1) (length octets)) ≡ Some pair
    → with_digits (prefix ++ pair_digits pair) (digits_of (drop (i + 1) octets))
    ≡ with_digits prefix (digits_of (drop i octets))
one_octet prefix octets i pair inside is_pair =
    with_digits-append prefix (pair_digits pair) (digits_of (drop (i + 1) octets))
    ∙ ap (with_digits prefix)
    (sym (digits_of-drop octets i inside ∙ ap (λ p. with_pair p (digits_of (drop (i + 1) octets))) is_pair))

-- one octet that isn't two digits
pub no_octet : (prefix octets : List ℕ) (i : ℕ) → i < length octets
    → digit_pair (get_or octets i 0) (eqb (i + 1) (length octets)) ≡ None
    → with_digits prefix (digits_of (drop i octets)) ≡ None
no_octet prefix octets i inside none =
    ap (with_digits prefix)
    (digits_of-drop octets i inside ∙ ap (λ p. with_pair p (digits_of (drop (i + 1) octets))) none)

-- behind the last octet nothing is left
pub no_more : (prefix octets : List ℕ) (i : ℕ) → length octets ≤ i
    → with_digits prefix (digits_of (drop i octets)) ≡ Some prefix
unfolding digits_of
no_more prefix octets i past =
    ap (λ rest. with_digits prefix (digits_of rest)) (drop_of_length-le octets past) ∙ ap Some (append-nil prefix)

abbrev pub IsDigit : ℕ → Type 0
IsDigit digit = (48 ≤ digit) × (digit ≤ 57)

-- which side a choice took
chosen : {A : Type 0} (test : Bool) (x y z : A) → cond test x y ≡ z
    → ((test ≡ true) × (x ≡ z)) ⊎ ((test ≡ false) × (y ≡ z))
chosen true x y z is = inl (refl, is)
chosen false x y z is = inr (refl, is)

abbrev some : {A : Type 0} → A → Option A
some x = Some x

some_is : {A : Type 0} (x y : A) → some x ≡ some y → x ≡ y
some_is x y is = cc

-- what an octet holds are digits
pair_decimal : (octet : ℕ) (last : Bool) (pair : ℕ × Option ℕ) → digit_pair octet last ≡ Some pair
    → AllByRecursion IsDigit (pair_digits pair)
pair_decimal octet last pair is_pair =
    let low : ℕ = octet % 16 in
    let high : ℕ = octet / 16 in
    let one : Option (ℕ × Option ℕ) = cond (eqb high 15 && last) (Some (48 + low, None)) None in
    let two : Option (ℕ × Option ℕ) = cond (leb high 9) (Some (48 + low, Some (48 + high))) one in
    elim (chosen (ltb 9 low) None two (Some pair) is_pair) [
      | inl nothing ↦ absurd (cc nothing.1)
      | inr pair_is ↦
          let low_is : low ≤ 9 = ltb-false _ _ pair_is.0 in
          elim (chosen (leb high 9) (Some (48 + low, Some (48 + high))) one (Some pair) pair_is.1) [
            | inl both ↦
                let high_is : high ≤ 9 = leb-true _ _ both.0 in
                subst (λ p. AllByRecursion IsDigit (pair_digits p)) (some_is _ _ both.1)
                ((omega arith, omega arith), ((omega arith, omega arith), tt))
            | inr alone ↦
                subst (λ p. AllByRecursion IsDigit (pair_digits p))
                (cond_some (eqb high 15 && last) (48 + low, None) pair alone.1).1 ((omega arith, omega arith), tt)
          ]
    ]

pub AllByRecursion-append : {X : Type 0} (P : X → Type 0) (xs ys : List X) → AllByRecursion P xs → AllByRecursion P ys
    → AllByRecursion P (xs ++ ys)
AllByRecursion-append P [] ys all_xs all_ys = all_ys
AllByRecursion-append P (x ∷ xs) ys all_xs all_ys = (all_xs.0, AllByRecursion-append P xs ys all_xs.1 all_ys)

digits_decimal-cons : (pair : Option (ℕ × Option ℕ)) (rest : Option (List ℕ)) (digits : List ℕ)
    → ((p : ℕ × Option ℕ) → pair ≡ Some p → AllByRecursion IsDigit (pair_digits p))
    → ((ds : List ℕ) → rest ≡ Some ds → AllByRecursion IsDigit ds)
    → with_pair pair rest ≡ Some digits → AllByRecursion IsDigit digits
digits_decimal-cons None rest digits first others is_digits = absurd cc
digits_decimal-cons (Some p) None digits first others is_digits = absurd cc
digits_decimal-cons (Some p) (Some ds) digits first others is_digits =
    subst (AllByRecursion IsDigit) (some_is (pair_digits p ++ ds) digits is_digits)
    (AllByRecursion-append IsDigit (pair_digits p) ds (first p refl) (others ds refl))

-- what octets hold are digits
pub digits_decimal : (octets digits : List ℕ) → digits_of octets ≡ Some digits → AllByRecursion IsDigit digits
unfolding digits_of
digits_decimal [] digits is_digits = subst (AllByRecursion IsDigit) (some_is [] digits is_digits) tt
digits_decimal (octet ∷ octets) digits is_digits =
    digits_decimal-cons (digit_pair octet (eqb (length octets) 0)) (digits_of octets) digits
    (pair_decimal octet (eqb (length octets) 0)) (digits_decimal octets) is_digits

-- the octets of the digits from a place on
pub imsi_octets-drop : (digits : List ℕ) (at : ℕ) → at < length digits
    → imsi_octets (drop at digits)
    ≡ octet_of (get_or digits at 0 - 48) (cond (ltb (at + 1) (length digits)) (get_or digits (at + 1) 0 - 48) 15)
    ∷ imsi_octets (drop (at + 2) digits)
unfolding imsi_octets
imsi_octets-drop digits at inside =
    let next : at + 1 ≡ suc at = add-one at in
    let after : at + 2 ≡ suc (suc at) = omega arith in
    let first : drop at digits ≡ get_or digits at 0 ∷ drop (suc at) digits = drop-cons digits at 0 inside in
    elim (cases_lt (suc at) (length digits)) [
      | inl more ↦
          let both : drop at digits ≡ get_or digits at 0 ∷ get_or digits (suc at) 0 ∷ drop (suc (suc at)) digits =
          first ∙ ap (λ rest. get_or digits at 0 ∷ rest) (drop-cons digits (suc at) 0 more) in
          ap imsi_octets both ∙ rw (next, after, lt-ltb _ _ more) refl
      | inr last ↦
          let one : drop at digits ≡ get_or digits at 0 ∷ [] =
          first ∙ ap (λ rest. get_or digits at 0 ∷ rest) (drop_of_length-le digits last) in
          let past : length digits ≤ suc (suc at) = omega arith in
          let none_after : drop (suc (suc at)) digits ≡ [] = drop_of_length-le digits past in
          ap imsi_octets one ∙ rw (next, after, le-ltb _ _ last, none_after) refl
    ]

-- the octet of one pair is put behind the octets before
pub more_octets : (prefix digits : List ℕ) (i : ℕ) → 2 * i < length digits
    → (prefix ++ octet_of (get_or digits (2 * i) 0 - 48)
    (cond (ltb (2 * i + 1) (length digits)) (get_or digits (2 * i + 1) 0 - 48) 15) ∷ [])
    ++ imsi_octets (drop (2 * (i + 1)) digits) ≡ prefix ++ imsi_octets (drop (2 * i) digits)
more_octets prefix digits i inside =
    let next : 2 * (i + 1) ≡ 2 * i + 2 = omega arith in
    append_assoc prefix _ _ ∙ ap (λ rest. prefix ++ rest) (rw next (sym (imsi_octets-drop digits (2 * i) inside)))

-- behind the last pair nothing is left
pub no_more_octets : (prefix digits : List ℕ) (i : ℕ) → length digits ≤ 2 * i
    → prefix ++ imsi_octets (drop (2 * i) digits) ≡ prefix
unfolding imsi_octets
no_more_octets prefix digits i past = rw drop_of_length-le (append-nil prefix)

-- an octet of two digits, and one of a last digit
full_octet : (low high : ℕ) (last : Bool) → IsDigit low → IsDigit high
    → digit_pair (octet_of (low - 48) (high - 48)) last ≡ Some (low, Some high)
full_octet low high last is_low is_high =
    let low_nibble : octet_of (low - 48) (high - 48) % 16 ≡ low - 48 = omega arith in
    let high_nibble : octet_of (low - 48) (high - 48) / 16 ≡ high - 48 = omega arith in
    let low_back : 48 + (low - 48) ≡ low = omega arith in
    let high_back : 48 + (high - 48) ≡ high = omega arith in
    let low_test : ltb 9 (low - 48) ≡ false = le-ltb _ _ (omega arith) in
    let high_test : leb (high - 48) 9 ≡ true = le-leb _ _ (omega arith) in
    rw (low_nibble, high_nibble, low_test, high_test, low_back, high_back) refl

last_digit : (low : ℕ) → IsDigit low → digit_pair (octet_of (low - 48) 15) true ≡ Some (low, None)
last_digit low is_low =
    let low_nibble : octet_of (low - 48) 15 % 16 ≡ low - 48 = omega arith in
    let high_nibble : octet_of (low - 48) 15 / 16 ≡ 15 = omega arith in
    let low_back : 48 + (low - 48) ≡ low = omega arith in
    let low_test : ltb 9 (low - 48) ≡ false = le-ltb _ _ (omega arith) in
    rw (low_nibble, high_nibble, low_test, low_back) refl

-- the octets of digits hold these digits
pub digits_of-imsi_octets : (digits : List ℕ) → AllByRecursion IsDigit digits
    → digits_of (imsi_octets digits) ≡ Some digits
unfolding digits_of imsi_octets
digits_of-imsi_octets [] decimal = refl
digits_of-imsi_octets (low ∷ []) decimal = rw (last_digit low decimal.0) refl
digits_of-imsi_octets (low ∷ high ∷ digits) decimal =
    rw (
      full_octet low high
          (eqb (length (imsi_octets digits)) 0) decimal.0 decimal.1.0,
      digits_of-imsi_octets digits decimal.1.1,
    ) refl

-- the octets are half as many as the digits, rounded up
pub length-imsi_octets : (digits : List ℕ)
    → (length digits ≤ 2 * length (imsi_octets digits)) × (2 * length (imsi_octets digits) ≤ length digits + 1)
unfolding imsi_octets
length-imsi_octets [] = (omega arith, omega arith)
length-imsi_octets (low ∷ []) = (omega arith, omega arith)
length-imsi_octets (low ∷ high ∷ digits) =
    let rest = length-imsi_octets digits in (omega (arith, rest.0), omega (arith, rest.1))

pub imsi_again : (digits : List ℕ) → IsImsi digits → imsi_of (imsi_octets digits) ≡ Some digits
imsi_again digits is =
    let least : leb 6 (length digits) ≡ true = le-leb _ _ is.least in
    let most : leb (length digits) 15 ≡ true = le-leb _ _ is.most in
    rw (digits_of-imsi_octets digits is.decimal, least, most) refl
