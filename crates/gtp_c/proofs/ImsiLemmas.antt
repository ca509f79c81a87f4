-- More than eight octets are more digits than an IMSI has.
use Rattle.std.proofs.Common.{◌≡◌, ℕ, suc, ◌+◌, ◌*◌, ◌/◌, ◌%◌, ◌<◌, ◌≤◌, Bool, true, false, eqb, ltb, leb, cond, ◌&&◌, ◌⊎◌, inl, inr, List, [], ◌∷◌, ◌++◌, length, Option, Some, None, refl, sym, ap, subst, ◌∙◌, arith, length-append}
use Rattle.std.proofs.lemmas.Bool.Decides.{nat_tests}
use Rattle.std.proofs.lemmas.Option.{cond_some}
use Rattle.gtpv2_ie.specs.Imsi.{digit_pair, pair_digits, with_pair, digits_of, if_imsi, imsi_of}
use Rattle.gtpv2_ie.specs.Kind.{no_context}
use Rattle.gtpv2_ie.specs.Value.{kind_value}
use Rattle.gtpv2_ie.specs.declared.kind.IeKind.TheVariants as kinds

chosen : {A : Type 0} (test : Bool) (x y z : A) → cond test x y ≡ z
    → ((test ≡ true) × (x ≡ z)) ⊎ ((test ≡ false) × (y ≡ z))
chosen true x y z is = inl (refl, is)
chosen false x y z is = inr (refl, is)

abbrev some : {A : Type 0} → A → Option A
some x = Some x

some_is : {A : Type 0} (x y : A) → some x ≡ some y → x ≡ y
some_is x y is = cc

and_last : (first last : Bool) → (first && last) ≡ true → last ≡ true
and_last true last is = is
and_last false last is = absurd cc

-- each octet but the last holds two digits
two_each : (octet : ℕ) (last : Bool) (pair : ℕ × Option ℕ) → digit_pair octet last ≡ Some pair
    → (last ≡ true) ⊎ (length (pair_digits pair) ≡ 2)
two_each octet last pair is_pair =
    let low : ℕ = octet % 16 in
    let high : ℕ = octet / 16 in
    let one : Option (ℕ × Option ℕ) = cond (eqb high 15 && last) (Some (48 + low, None)) None in
    let two : Option (ℕ × Option ℕ) = cond (leb high 9) (Some (48 + low, Some (48 + high))) one in
    elim (chosen (ltb 9 low) None two (Some pair) is_pair) [
      | inl nothing ↦ absurd (cc nothing.1)
      | inr pair_is ↦
          elim (chosen (leb high 9) (Some (48 + low, Some (48 + high))) one (Some pair) pair_is.1) [
            | inl both ↦ inr (subst (λ p. length (pair_digits p) ≡ 2) (some_is _ _ both.1) refl)
            | inr alone ↦
                inl (and_last (eqb high 15) last (cond_some (eqb high 15 && last) (48 + low, None) pair alone.1).0)
          ]
    ]

one_at_least : (pair : ℕ × Option ℕ) → 1 ≤ length (pair_digits pair)
one_at_least pair = omega arith

with_pair_len : (pair : Option (ℕ × Option ℕ)) (rest : Option (List ℕ)) (digits : List ℕ) (count : ℕ)
    → ((p : ℕ × Option ℕ) → pair ≡ Some p → (eqb count 0 ≡ true) ⊎ (length (pair_digits p) ≡ 2))
    → ((ds : List ℕ) → rest ≡ Some ds → 2 * count ≤ length ds + 1)
    → with_pair pair rest ≡ Some digits → 2 * suc count ≤ length digits + 1
with_pair_len None rest digits count first others is = absurd cc
with_pair_len (Some p) None digits count first others is = absurd cc
with_pair_len (Some p) (Some ds) digits count first others is =
    let joined : pair_digits p ++ ds ≡ digits = some_is _ _ is in
    let sum : length (pair_digits p) + length ds ≡ length digits
    = sym (length-append (pair_digits p) ds) ∙ ap length joined in
    let more : 2 * count ≤ length ds + 1 = others ds refl in
    let some_digit : 1 ≤ length (pair_digits p) = one_at_least p in
    elim (first p refl) [
      | inl last ↦
          let none : count ≡ 0 = grind (arith, nat_tests) in
          omega (arith, sum, none, some_digit)
      | inr two ↦ omega (arith, sum, two, more)
    ]

many_digits : (octets digits : List ℕ) → digits_of octets ≡ Some digits → 2 * length octets ≤ length digits + 1
unfolding digits_of
many_digits [] digits is = omega arith
many_digits (octet ∷ octets) digits is =
    with_pair_len (digit_pair octet (eqb (length octets) 0)) (digits_of octets) digits (length octets)
    (two_each octet (eqb (length octets) 0)) (many_digits octets) is

if_long : (found : Option (List ℕ)) (count : ℕ)
    → ((ds : List ℕ) → found ≡ Some ds → 2 * count ≤ length ds + 1) → 8 < count → if_imsi found ≡ None
if_long None count each long = refl
if_long (Some ds) count each long =
    let much : 2 * count ≤ length ds + 1 = each ds refl in
    let past : 15 < length ds = omega (arith, much, long) in
    grind (arith, nat_tests)

pub no_value : (octets : List ℕ) → 8 < length octets → kind_value no_context kinds.Imsi octets ≡ None
no_value octets long =
    let none : imsi_of octets ≡ None = if_long (digits_of octets) (length octets) (many_digits octets) long in
    grind (arith, nat_tests, none)
