-- Single fields: the word of a value, and the value of a word.
use Rattle.std.proofs.Common.{◌≡◌, ℕ, ◌^◌, ◌-◌, ◌<◌, ◌==◌, Bool, true, false, List, [], ◌∷◌, length, get_or, refl, sym, ap, ◌∙◌, arith, Option, Some, None, ◌⊎◌, inl, inr, if◌then◌else◌, lit<}
use Rattle.std.specs.Prelude.{codes, decimal, IfSome}
use Rattle.std.specs.Option.{option_map}
use Rattle.std.specs.Str.{bytes_eq}
use Rattle.std.proofs.lemmas.Bool.Decides.{nat_tests}
use Rattle.std.proofs.lemmas.Slice.Eq.{bytes_eq-Decides}
use Rattle.std.proofs.lemmas.Fmt.{decimal_nonempty}
use Rattle.charging_book.specs.declared.records.Why.{Why}
use Rattle.charging_book.specs.declared.records.Why.TheVariants.{Volume, Qos, Gone}
use Rattle.hex.specs.Hex.{encode_lower, lower_digits}
use Rattle.hex.proofs.HexLemmas.{length-encode_with}
use Rattle.pc_base.specs.declared.packet.Place.{Place}
use Rattle.pc_base.specs.declared.packet.Place.TheVariants.{At, Closing}
use Rattle.pc_base.specs.declared.reply.Outcome.{Outcome}
use Rattle.pc_base.specs.declared.reply.Outcome.TheVariants.{Done, No, Again}
use Rattle.text_fields.specs.Number.{number_in}
use Rattle.text_fields.specs.Hexadecimal.{lower_octets_of}
use Rattle.text_fields.proofs.AddressLemmas.{digits_lack}
use Rattle.text_fields.proofs.DigitLemmas.{number_read, number_only}
use Rattle.text_fields.proofs.LowerLemmas.{lower_octets_read, lower_octets_only}
use Rattle.report_lines.specs.Ranges.{IsOctets, IsMoment, IsPlace}
use Rattle.report_lines.specs.Reading.{outcome_of, why_of, refused_of, message_of, moment_of, slice_at, place_at}
use Rattle.report_lines.specs.Words.{outcome_word, why_word, refused_word, message_word, moment_word, place_word}

some_same : {A : Type 0} (x y : A) → Some x ≡ Some y → x ≡ y
some_same x y same = cc

none_is : {A : Type 0} {P : Type 0} (x : A) → None ≡ Some x → P
none_is x same = cc

-- a text that isn't a word
differ_at : {P : Type 0} (b : Bool) → (b ≡ true → P) → (P → ⊥) → b ≡ false
differ_at true means other = absurd (other (means refl))
differ_at false means other = refl

pub bytes_differ : (text word : List ℕ) → (text ≡ word → ⊥) → bytes_eq text word ≡ false
bytes_differ text word other = differ_at (bytes_eq text word) (bytes_eq-Decides text word).0 other

-- one word of several
one_of : {A : Type 0} (word : A → List ℕ) (text known : List ℕ) (b : Bool) (here told : A) (others : Option A)
    → bytes_eq text known ≡ b
    → word here ≡ known → (others ≡ Some told → text ≡ word told) → (if b then Some here else others) ≡ Some told
    → text ≡ word told
one_of word text known true here told others test is rest read =
    let same : here ≡ told = some_same here told read in
    (bytes_eq-Decides text known).0 test ∙ sym is ∙ ap word same
one_of word text known false here told others test is rest read = rest read

pub outcome_given : (text : List ℕ) (told : Outcome) → outcome_of text ≡ Some told → text ≡ outcome_word told
outcome_given text told =
    one_of outcome_word text (codes "ok") _ Done told _ refl refl
    (one_of outcome_word text (codes "no") _ No told _ refl refl
    (one_of outcome_word text (codes "again") _ Again told _ refl refl (λ none. none_is told none)))

pub outcome_taken : (outcome : Outcome) → outcome_of (outcome_word outcome) ≡ Some outcome
outcome_taken Done = refl
outcome_taken No = refl
outcome_taken Again = refl

pub why_given : (text : List ℕ) (told : Why) → why_of text ≡ Some told → text ≡ why_word told
why_given text told =
    one_of why_word text (codes "volume") _ Volume told _ refl refl
    (one_of why_word text (codes "qos") _ Qos told _ refl refl
    (one_of why_word text (codes "gone") _ Gone told _ refl refl (λ none. none_is told none)))

pub why_taken : (why : Why) → why_of (why_word why) ≡ Some why
why_taken Volume = refl
why_taken Qos = refl
why_taken Gone = refl

pub refused_given : (text : List ℕ) (told : Bool) → refused_of text ≡ Some told → text ≡ refused_word told
refused_given text told =
    one_of refused_word text (codes "p") _ true told _ refl refl
    (one_of refused_word text (codes "c") _ false told _ refl refl (λ none. none_is told none))

pub refused_taken : (packet : Bool) → refused_of (refused_word packet) ≡ Some packet
refused_taken true = refl
refused_taken false = refl

-- a dash, or something
dash_or : {A : Type 0} (text : List ℕ) (b : Bool) (value : Option A) (told : Option A) → bytes_eq text (codes "-") ≡ b
    → (if b then Some None else option_map (λ x. Some x) value) ≡ Some told
    → ((text ≡ codes "-") × (told ≡ None)) ⊎ ((x : A) × (value ≡ Some x) × (told ≡ Some x))
dash_or text true value told test read =
    inl ((bytes_eq-Decides text (codes "-")).0 test, sym (some_same None told read))
dash_or text false (Some x) told test read = inr (x, refl, sym (some_same (Some x) told read))
dash_or text false None told test read = none_is told read

-- what isn't a dash
something : {A : Type 0} (text : List ℕ) (value : Option A) (x : A) → (text ≡ codes "-" → ⊥) → value ≡ Some x
    → (if bytes_eq text (codes "-") then Some None else option_map (λ y. Some y) value) ≡ Some (Some x)
something text value x other is =
    ap (λ b. if b then Some None else option_map (λ y. Some y) value) (bytes_differ text (codes "-") other)
    ∙ ap (λ v. option_map (λ y. Some y) v) is

octets_no_dash : (octets : List ℕ) → encode_lower octets ≡ codes "-" → ⊥
octets_no_dash octets same = omega (arith, length-encode_with lower_digits octets, ap length same)

number_no_dash : (n : ℕ) → n < 2 ^ 64 → decimal n ≡ codes "-" → ⊥
number_no_dash n fits same =
    digits_lack n 45 fits (omega arith) 0 0 (decimal_nonempty n fits) (ap (λ text. get_or text 0 0) same)

pub message_given : (text : List ℕ) (told : Option (List ℕ)) → message_of text ≡ Some told
    → (text ≡ message_word told) × IfSome told IsOctets
message_given text told read =
    elim (dash_or text (bytes_eq text (codes "-")) (lower_octets_of text) told refl read) [
      | inl none ↦ rw none.1 (none.0, tt)
      | inr some ↦
          let only = lower_octets_only text some.0 some.1 in
          rw some.2 (only.0, (only.1, only.2))
    ]

pub message_taken : (message : Option (List ℕ)) → IfSome message IsOctets
    → message_of (message_word message) ≡ Some message
message_taken None is = refl
message_taken (Some octets) is =
    something (encode_lower octets) (lower_octets_of (encode_lower octets)) octets (octets_no_dash octets)
    (lower_octets_read octets is.0 is.1)

pub moment_given : (text : List ℕ) (told : Option ℕ) → moment_of text ≡ Some told → (text ≡ moment_word told)
    × IfSome told IsMoment
moment_given text told read =
    elim (dash_or text (bytes_eq text (codes "-")) (number_in 0 (2 ^ 50 - 1) text) told refl read) [
      | inl none ↦ rw none.1 (none.0, tt)
      | inr some ↦
          let only = number_only 0 (2 ^ 50 - 1) some.0 text (lit< tt) some.1 in
          let fits : some.0 < 2 ^ 50 = omega (arith, only.2) in
          rw some.2 (only.0, fits)
    ]

pub moment_taken : (moment : Option ℕ) → IfSome moment IsMoment → moment_of (moment_word moment) ≡ Some moment
moment_taken None is = refl
moment_taken (Some at) is =
    something (decimal at) (number_in 0 (2 ^ 50 - 1) (decimal at)) at (number_no_dash at (omega arith))
    (number_read 0 (2 ^ 50 - 1) at (omega arith) (omega arith) (omega arith))

-- places
slice_given_at : (text : List ℕ) (b : Bool) (value : Option ℕ) (told : Place) → bytes_eq text (codes "-") ≡ b
    → (if b then Some Closing else option_map (λ slice. At slice) value) ≡ Some told
    → ((text ≡ codes "-") × (Closing ≡ told)) ⊎ ((slice : ℕ) × (value ≡ Some slice) × (At slice ≡ told))
slice_given_at text true value told test read =
    inl ((bytes_eq-Decides text (codes "-")).0 test, some_same Closing told read)
slice_given_at text false (Some slice) told test read = inr (slice, refl, some_same (At slice) told read)
slice_given_at text false None told test read = none_is told read

slice_given : (text : List ℕ) (told : Place) → slice_at text ≡ Some told → (64 ∷ text ≡ place_word told) × IsPlace told
slice_given text told read =
    elim (slice_given_at text (bytes_eq text (codes "-")) (number_in 0 63 text) told refl read) [
      | inl none ↦ let same : Closing ≡ told = none.1 in rw (← same) (ap (λ t. 64 ∷ t) none.0, tt)
      | inr some ↦
          let only = number_only 0 63 some.0 text (lit< tt) some.1 in
          let same : At some.0 ≡ told = some.2 in
          rw (← same) (ap (λ t. 64 ∷ t) only.0, only.2)
    ]

first_is : (octet : ℕ) (text : List ℕ) (b : Bool) (told : Place) → (octet == 64) ≡ b
    → (if b then slice_at text else None) ≡ Some told
    → (octet ≡ 64) × (slice_at text ≡ Some told)
first_is octet text true told test read = (grind (arith, nat_tests), read)
first_is octet text false told test read = none_is told read

pub place_given : (text : List ℕ) (told : Place) → place_at text ≡ Some told → (text ≡ place_word told) × IsPlace told
place_given [] told read = none_is told read
place_given (octet ∷ text) told read =
    let first = first_is octet text (octet == 64) told refl read in
    let rest = slice_given text told first.1 in
    (ap (λ o. o ∷ text) first.0 ∙ rest.0, rest.1)

pub place_taken : (place : Place) → IsPlace place → place_at (place_word place) ≡ Some place
place_taken Closing is = refl
place_taken (At slice) is =
    ap (λ b. if b then Some Closing else option_map (λ s. At s) (number_in 0 63 (decimal slice)))
    (bytes_differ (decimal slice) (codes "-") (number_no_dash slice (omega (arith, is))))
    ∙ ap (λ v. option_map (λ s. At s) v) (number_read 0 63 slice (omega (arith, is)) (omega arith) is)
