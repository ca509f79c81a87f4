-- Hexadecimal texts in lower case.
use Rattle.std.proofs.Common.{◌≡◌, ◌≢◌, ℕ, ◌+◌, ◌/◌, ◌%◌, ◌<◌, ◌||◌, ◌&&◌, not, Bool, true, false, List, [], ◌∷◌, length, get_or, All, refl, sym, ap, ◌∙◌, arith, Some, None, Ok, Err, Option, Result, Vec, Global, cond}
use Rattle.std.specs.Prelude.{IfOk, OnErr}
use Rattle.std.specs.List.{list_all, list_any}
use Rattle.std.specs.Option.{option_map}
use Rattle.std.specs.declared.alloc.AllocError.{AllocError}
use Rattle.std.proofs.lemmas.Bool.{and_parts}
use Rattle.std.proofs.lemmas.Bool.Decides.{nat_tests}
use Rattle.std.proofs.lemmas.List.Elements.{All-head, All-tail}
use Rattle.hex.specs.Hex.{encode_lower, is_hex_digit}
use Rattle.hex.proofs.HexLemmas.{decode_of-even}
use mir.Syntax.{w8}
use mir.Val.{Fits}
use Rattle.text_fields.specs.Blocks.{packed, values_of}
use Rattle.text_fields.specs.Hexadecimal.{lower, is_upper, is_lower_digit, in_lower_case, octets_of, lower_octets_of}
use Rattle.text_fields.proofs.BlockLemmas.{pairs_packed}
use Rattle.text_fields.proofs.HexadecimalLemmas.{octets_read, octets_only, no_octets, read_some}
use Rattle.text_fields.proofs.PlainLemmas.{IsPlain, kept, field-encode_lower}

plain_not_upper : (octet : ℕ) → lower octet ≡ octet → is_upper octet ≡ false
plain_not_upper octet stays = grind (arith, nat_tests)

none_upper : (text : List ℕ) → All IsPlain text → list_any is_upper text ≡ false
none_upper [] plain = refl
none_upper (octet ∷ text) plain =
    let first = plain_not_upper octet (All-head IsPlain octet text plain).1 in
    rw first (none_upper text (All-tail IsPlain octet text plain))

-- an octet that stays in lower case, as a test
not_upper_stays : (octet : ℕ) → is_upper octet ≡ false → lower octet ≡ octet
not_upper_stays octet test = ap (λ b. cond b (octet + 32) octet) test

or_parts : (a b : Bool) → (a || b) ≡ false → (a ≡ false) × (b ≡ false)
or_parts true b is = cc
or_parts false b is = (refl, is)

stays : (text : List ℕ) → list_any is_upper text ≡ false → in_lower_case text ≡ text
stays [] none = refl
stays (octet ∷ text) none =
    let parts = or_parts (is_upper octet) (list_any is_upper text) none in
    let first = not_upper_stays octet parts.0 in
    let rest = stays text parts.1 in
    cc

pub lower_octets_read : (octets : List ℕ) → 0 < length octets → All (λ octet. octet < 256) octets
    → lower_octets_of (encode_lower octets) ≡ Some octets
lower_octets_read octets some fits =
    let field = field-encode_lower octets some fits in
    ap (λ b. cond b None (octets_of (encode_lower octets))) (none_upper (encode_lower octets) field.plain)
    ∙ octets_read (encode_lower octets) octets some fits (kept (encode_lower octets) field.plain)

chosen : (b : Bool) (value : Option (List ℕ)) (octets : List ℕ) → cond b None value ≡ Some octets → (b ≡ false)
    × (value ≡ Some octets)
chosen true value octets is = cc
chosen false value octets is = (refl, is)

pub lower_octets_only : (text octets : List ℕ) → lower_octets_of text ≡ Some octets
    → (text ≡ encode_lower octets) × (0 < length octets) × All (λ octet. octet < 256) octets
lower_octets_only text octets read =
    let parts = chosen (list_any is_upper text) (octets_of text) octets read in
    let only = octets_only text octets parts.1 in
    (sym (stays text parts.0) ∙ only.0, only.1, only.2)

-- a text of digits in lower case, and one with another octet
and_not : (a b : Bool) → b ≡ false → (a && not b) ≡ a
and_not true b is = rw is refl
and_not false b is = refl

no_upper : (a b : Bool) → (a && not b) ≡ true → (b ≡ false) × (a ≡ true)
no_upper true true is = cc
no_upper true false is = (refl, refl)
no_upper false b is = cc

without_upper : (text : List ℕ) → list_any is_upper text ≡ false
    → list_all is_lower_digit text ≡ list_all is_hex_digit text
without_upper [] none = refl
without_upper (digit ∷ text) none =
    let parts = or_parts (is_upper digit) (list_any is_upper text) none in
    rw (and_not (is_hex_digit digit) (is_upper digit) parts.0, without_upper text parts.1) refl

other_digit : (text : List ℕ) (upper : Bool) → list_any is_upper text ≡ upper → list_all is_lower_digit text ≡ false
    → cond upper None (octets_of text) ≡ None
other_digit text true is other = refl
other_digit text false is other = no_octets text (sym (without_upper text is) ∙ other)

pub not_lower : (text : List ℕ) → list_all is_lower_digit text ≡ false → lower_octets_of text ≡ None
not_lower text other = other_digit text (list_any is_upper text) refl other

digits_in_lower : (text : List ℕ) → list_all is_lower_digit text ≡ true
    → (list_any is_upper text ≡ false) × (list_all is_hex_digit text ≡ true)
digits_in_lower [] all = (refl, refl)
digits_in_lower (digit ∷ text) all =
    let parts = and_parts (is_lower_digit digit) (list_all is_lower_digit text) all in
    let first = no_upper (is_hex_digit digit) (is_upper digit) parts.0 in
    let rest = digits_in_lower text parts.1 in
    (rw first.0 rest.0, rw first.1 rest.1)

pub in_lower : (text : List ℕ) → list_all is_lower_digit text ≡ true → lower_octets_of text ≡ octets_of text
in_lower text all = ap (λ b. cond b None (octets_of text)) (digits_in_lower text all).0

some_not_none : (text octets : List ℕ) → lower_octets_of text ≡ Some octets → lower_octets_of text ≢ None
some_not_none text octets is none = cc

pub are_lower_octets : (text : List ℕ) → ((k : ℕ) → Fits w8 (get_or text k 0)) → length text % 2 ≡ 0 → 0 < length text
    → list_all is_lower_digit text ≡ true → lower_octets_of text ≢ None
are_lower_octets text fits even some all =
    let digits = (digits_in_lower text all).1 in
    some_not_none text (packed (values_of text)) (in_lower text all ∙ read_some text (packed (values_of text)) some
    (decode_of-even text even ∙ pairs_packed 0 (length text / 2) text fits (omega arith) digits))

-- what is read of such a text, and where it isn't
pub read_in_lower : (read : Result (Option (Vec ℕ Global)) AllocError) (text : List ℕ)
    → list_all is_lower_digit text ≡ true → IfOk read (λ octets. option_map (λ v. v.items) octets ≡ octets_of text)
    → IfOk read (λ octets. option_map (λ v. v.items) octets ≡ lower_octets_of text)
read_in_lower (Ok octets) text all value = value ∙ sym (in_lower text all)
read_in_lower (Err why) text all value = tt

pub refused_in_lower : (read : Result (Option (Vec ℕ Global)) AllocError) (text : List ℕ)
    → ((k : ℕ) → Fits w8 (get_or text k 0)) → list_all is_lower_digit text ≡ true
    → OnErr read ((length text % 2 ≡ 0) × (0 < length text)) → OnErr read (lower_octets_of text ≢ None)
refused_in_lower (Ok octets) text fits all memory = tt
refused_in_lower (Err why) text fits all memory = are_lower_octets text fits memory.0 memory.1 all
