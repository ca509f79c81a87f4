-- Addresses as dotted texts.
use Rattle.std.proofs.Common.{◌≡◌, ℕ, zero, suc, ◌<◌, ◌^◌, List, [], ◌∷◌, get_or, refl, sym, ap, ◌∙◌, arith, All, map, Option, Some, None}
use Rattle.std.specs.Prelude.{decimal}
use Rattle.std.specs.Int.{w32, from_be_bytes}
use Rattle.std.proofs.lemmas.Fmt.{decimal_is_IsNumeral}
use Rattle.std.proofs.lemmas.Nat.{be_bytes_4, from_be_bytes-to_be_bytes_4}
use Rattle.std.proofs.lemmas.Str.Parse.{digit_at}
use Rattle.std.specs.List.{join_with_byte}
use Rattle.text_fields.specs.Fields.{pieces, AllLack}
use Rattle.text_fields.specs.Number.{number_in}
use Rattle.text_fields.specs.Address.{dot, dotted, parts_of, address_of, ◌>>=◌}
use Rattle.text_fields.proofs.CutLemmas.{get_or-default}
use Rattle.text_fields.proofs.DigitLemmas.{number_read, number_only}
use Rattle.text_fields.proofs.FieldLemmas.{pieces-joined, joined-pieces}

-- digits have no other octet among them
pub digits_lack : (n at : ℕ) → n < 2 ^ 64 → at < 48 → All (λ octet. octet ≡ at → ⊥) (decimal n)
digits_lack n at fits low k d inside =
    let range = digit_at (decimal n) k (decimal_is_IsNumeral n fits).0.1 inside in
    let default = get_or-default (decimal n) k d inside in
    λ same. omega (arith, range, default, same)

four_lack : (a b c d : ℕ) → a < 256 → b < 256 → c < 256 → d < 256 → AllLack dot (map decimal (a ∷ b ∷ c ∷ d ∷ []))
four_lack a b c d fits_a fits_b fits_c fits_d = (
  digits_lack a 46 (omega arith) (omega arith),
  (
    digits_lack b 46 (omega arith) (omega arith),
    (digits_lack c 46 (omega arith) (omega arith), (digits_lack d 46 (omega arith) (omega arith), tt)),
  ),
)

four_read : (a b c d : ℕ) → a < 256 → b < 256 → c < 256 → d < 256
    → parts_of (map decimal (a ∷ b ∷ c ∷ d ∷ [])) ≡ Some (from_be_bytes w32 (a ∷ b ∷ c ∷ d ∷ []))
four_read a b c d fits_a fits_b fits_c fits_d =
    let first = number_read 0 255 a (omega arith) (omega arith) (omega arith) in
    let second = number_read 0 255 b (omega arith) (omega arith) (omega arith) in
    let third = number_read 0 255 c (omega arith) (omega arith) (omega arith) in
    let fourth = number_read 0 255 d (omega arith) (omega arith) (omega arith) in
    rw (first, second, third, fourth) refl

four : (a b c d : ℕ) → a < 256 → b < 256 → c < 256 → d < 256
    → address_of (join_with_byte dot (map decimal (a ∷ b ∷ c ∷ d ∷ []))) ≡ Some (from_be_bytes w32 (a ∷ b ∷ c ∷ d ∷ []))
four a b c d fits_a fits_b fits_c fits_d =
    ap parts_of (pieces-joined dot (decimal a) (map decimal (b ∷ c ∷ d ∷ []))
    (four_lack a b c d fits_a fits_b fits_c fits_d))
    ∙ four_read a b c d fits_a fits_b fits_c fits_d

pub address_read : (address : ℕ) → address < 2 ^ 32 → address_of (dotted address) ≡ Some address
address_read address fits =
    four _ _ _ _ (omega arith) (omega arith) (omega arith) (omega arith)
    ∙ ap Some (from_be_bytes-to_be_bytes_4 address fits)

-- what was bound
bound : {A B : Type 0} (r : Option A) (f : A → Option B) (y : B) → (r >>= f) ≡ Some y → (x : A) × (r ≡ Some x)
    × (f x ≡ Some y)
bound (Some x) f y is = (x, refl, is)
bound None f y is = cc

abbrev bytes_of : ℕ → ℕ → ℕ → ℕ → List ℕ
bytes_of a b c d = a ∷ b ∷ c ∷ d ∷ []

each_fits : (a b c d i : ℕ) → a < 256 → b < 256 → c < 256 → d < 256 → get_or (bytes_of a b c d) i 0 < 256
each_fits a b c d zero fits_a fits_b fits_c fits_d = fits_a
each_fits a b c d (suc zero) fits_a fits_b fits_c fits_d = fits_b
each_fits a b c d (suc (suc zero)) fits_a fits_b fits_c fits_d = fits_c
each_fits a b c d (suc (suc (suc zero))) fits_a fits_b fits_c fits_d = fits_d
each_fits a b c d (suc (suc (suc (suc i)))) fits_a fits_b fits_c fits_d = omega arith

four_texts : (t u v w : List ℕ) (a b c d : ℕ) → t ≡ decimal a → u ≡ decimal b → v ≡ decimal c → w ≡ decimal d
    → map decimal (bytes_of a b c d) ≡ t ∷ u ∷ v ∷ w ∷ []
four_texts t u v w a b c d is_t is_u is_v is_w = cc

parts_only : (texts : List (List ℕ)) (address : ℕ) → parts_of texts ≡ Some address
    → (join_with_byte dot texts ≡ dotted address) × (address < 2 ^ 32)
parts_only (t ∷ u ∷ v ∷ w ∷ []) address read =
    let first = bound (number_in 0 255 t) _ address read in
    let second = bound (number_in 0 255 u) _ address first.2 in
    let third = bound (number_in 0 255 v) _ address second.2 in
    let fourth = bound (number_in 0 255 w) _ address third.2 in
    let a = number_only 0 255 first.0 t (omega arith) first.1 in
    let b = number_only 0 255 second.0 u (omega arith) second.1 in
    let c = number_only 0 255 third.0 v (omega arith) third.1 in
    let d = number_only 0 255 fourth.0 w (omega arith) fourth.1 in
    let whole : from_be_bytes w32 (bytes_of first.0 second.0 third.0 fourth.0) ≡ address = cc (fourth.2) in
    let bytes = be_bytes_4 (bytes_of first.0 second.0 third.0 fourth.0) address refl
    (λ i. each_fits first.0 second.0 third.0 fourth.0 i (omega arith) (omega arith) (omega arith) (omega arith))
    (sym whole) in
    let texts = four_texts t u v w first.0 second.0 third.0 fourth.0 a.0 b.0 c.0 d.0 in (
      ap (join_with_byte dot) (sym texts) ∙ ap (λ octets. join_with_byte dot (map decimal octets)) (sym bytes),
      omega arith,
    )
parts_only [] address read = cc
parts_only (t ∷ []) address read = cc
parts_only (t ∷ u ∷ []) address read = cc
parts_only (t ∷ u ∷ v ∷ []) address read = cc
parts_only (t ∷ u ∷ v ∷ w ∷ x ∷ texts) address read = cc

pub address_only : (address : ℕ) (text : List ℕ) → address_of text ≡ Some address → (text ≡ dotted address)
    × (address < 2 ^ 32)
address_only address text read =
    let parts = parts_only (pieces dot text) address read in
    (sym (joined-pieces dot text) ∙ parts.0, parts.1)
