-- The notes on lines print: each octet is one of printable ASCII.
use Rattle.std.proofs.Common.{◌≡◌, ℕ, ◌+◌, ◌/◌, ◌%◌, ◌<◌, ◌≤◌, ◌^◌, ◌==◌, ◌&&◌, Bool, true, false, nat_le, nat_lt, if◌then◌else◌, List, [], ◌∷◌, ◌++◌, length, get_or, codes, Option, Some, None, refl, arith, length-append}
use Rattle.std.specs.Prelude.{IfSome, decimal}
use Rattle.std.specs.List.{AllByRecursion, list_all}
use Rattle.std.proofs.lemmas.Bool.{leb-true, ltb-true}
use Rattle.std.proofs.lemmas.List.Elements.{All-from_recursion, recursion_from_All}
use Rattle.hex.specs.Hex.{encode_lower, encode_with, lower_digits}
use Rattle.text_fields.proofs.PlainLemmas.{low_decimal}
use Rattle.gtpu_codec.specs.declared.fault.UBad.{UBad}
use Rattle.gtpu_codec.specs.declared.fault.UBad.TheVariants as tunnel_bad
use Rattle.gtpv2_msg.specs.declared.fault.CBad.{CBad}
use Rattle.gtpv2_msg.specs.declared.fault.CBad.TheVariants as message_bad
use Rattle.ipv4_packet.specs.declared.fault.IpBad.{IpBad}
use Rattle.ipv4_packet.specs.declared.fault.IpBad.TheVariants as ip_bad
use Rattle.tft_codec.specs.declared.fault.TBad.{TBad}
use Rattle.tft_codec.specs.declared.fault.TBad.TheVariants as template_bad
use Rattle.demux.specs.Ranges.{IsOctet}
use Rattle.demux.specs.Resolved.{IsNote}
use Rattle.demux.specs.Texts.{carried_note, element_note, message_note, move_note, packet_note, reply_note, template_note, octets_note, tunnel_note}
use Rattle.demux.proofs.FaultRanges.{FaultFits}
use Rattle.demux.proofs.Small.{Small, each_append}

abbrev pub IsPrintable : ℕ → Type 0
IsPrintable octet = (0x20 ≤ octet) × (octet ≤ 0x7e)

abbrev pub Prints : List ℕ → Type 0
Prints text = AllByRecursion IsPrintable text

abbrev prints_octet : ℕ → Bool
prints_octet octet = nat_le 0x20 octet && nat_le octet 0x7e

both_true : (one other : Bool) → (one && other) ≡ true → (one ≡ true) × (other ≡ true)
both_true true other is = (refl, is)
both_true false other is = absurd cc

-- a text that is written out
pub word_prints : (text : List ℕ) → list_all prints_octet text ≡ true → Prints text
word_prints [] is = tt
word_prints (octet ∷ text) is =
    let first = both_true (prints_octet octet) (list_all prints_octet text) is in
    let range = both_true (nat_le 0x20 octet) (nat_le octet 0x7e) first.0 in
    ((leb-true 0x20 octet range.0, leb-true octet 0x7e range.1), word_prints text first.1)

pub joins : (one other : List ℕ) → Prints one → Prints other → Prints (one ++ other)
joins one other first second = each_append IsPrintable one other first second

pub behind_space : (one other : List ℕ) → Prints one → Prints other → Prints (one ++ 32 ∷ other)
behind_space one other first second = joins one (32 ∷ other) first ((omega arith, omega arith), second)

-- numbers, and octets in hexadecimal
pub decimal_prints : (n : ℕ) → n < 2 ^ 64 → Prints (decimal n)
decimal_prints n fits =
    recursion_from_All IsPrintable (decimal n)
    (λ k d inside. let low = low_decimal n fits k d inside in (omega (arith, low.0), omega (arith, low.1)))

digit_prints : (digit : ℕ) → digit < 16 → IsPrintable (get_or lower_digits digit 0)
digit_prints digit below =
    All-from_recursion IsPrintable lower_digits (word_prints lower_digits refl) digit 0 below

pub octets_print : (octets : List ℕ) → Small octets → Prints (encode_lower octets)
unfolding encode_with
octets_print [] small = tt
octets_print (octet ∷ octets) small =
    (digit_prints (octet / 16) (omega (arith, small.0)), (digit_prints (octet % 16) (omega arith), octets_print octets small.1))

-- a note is some text that prints
pub note_of : (text : List ℕ) → 0 < length text → Prints text → IsNote text
note_of text some prints = (some, All-from_recursion IsPrintable text prints)

-- words that are written out
abbrev pub is_words : List ℕ → Bool
is_words text = nat_lt 0 (length text) && list_all prints_octet text

pub words_some : (text : List ℕ) → is_words text ≡ true → 0 < length text
words_some text is = ltb-true 0 (length text) (both_true (nat_lt 0 (length text)) (list_all prints_octet text) is).0

pub words_print : (text : List ℕ) → is_words text ≡ true → Prints text
words_print text is = word_prints text (both_true (nat_lt 0 (length text)) (list_all prints_octet text) is).1

pub words_are_note : (text : List ℕ) → is_words text ≡ true → IsNote text
words_are_note text is = note_of text (words_some text is) (words_print text is)

-- .. and something behind them
some_before : (one other : List ℕ) → 0 < length one → 0 < length (one ++ 32 ∷ other)
some_before one other some = omega (arith, some, length-append one (32 ∷ other))

pub told_is_note : (word octets : List ℕ) → 0 < length word → Prints word → Small octets → IsNote (octets_note word octets)
told_is_note word octets some prints small =
    note_of (octets_note word octets) (some_before word (encode_lower octets) some)
    (behind_space word (encode_lower octets) prints (octets_print octets small))

pub words_told : (word octets : List ℕ) → is_words word ≡ true → Small octets → IsNote (octets_note word octets)
words_told word octets is small = told_is_note word octets (words_some word is) (words_print word is) small

replied_is_note : (word : List ℕ) (reply : Option (List ℕ)) → 0 < length word → Prints word → IfSome reply Small
    → IsNote (reply_note word reply)
replied_is_note word (Some reply) some prints small = told_is_note word reply some prints small
replied_is_note word None some prints small =
    note_of (word ++ 32 ∷ codes "-") (some_before word (codes "-") some)
    (behind_space word (codes "-") prints (word_prints (codes "-") refl))

pub words_replied : (word : List ℕ) (reply : Option (List ℕ)) → is_words word ≡ true → IfSome reply Small
    → IsNote (reply_note word reply)
words_replied word reply is small = replied_is_note word reply (words_some word is) (words_print word is) small

element_is_note : (word : List ℕ) (kind instance : ℕ) (reply : Option (List ℕ)) → is_words word ≡ true
    → IsOctet kind → IsOctet instance → IfSome reply Small → IsNote (element_note word kind instance reply)
element_is_note word kind instance reply is small_kind small_instance small =
    let first : List ℕ = word ++ 32 ∷ decimal kind in
    let both : List ℕ = first ++ 32 ∷ decimal instance in
    replied_is_note both reply
    (some_before first (decimal instance) (some_before word (decimal kind) (words_some word is)))
    (behind_space first (decimal instance)
    (behind_space word (decimal kind) (words_print word is) (decimal_prints kind (omega (arith, small_kind))))
    (decimal_prints instance (omega (arith, small_instance)))) small

-- of octets that are no message, and so on
pub message_is_note : (bad : CBad) (reply : Option (List ℕ)) → FaultFits bad → IfSome reply Small
    → IsNote (message_note bad reply)
message_is_note message_bad.Short reply fits small = words_are_note (codes "s11 short") refl
message_is_note message_bad.Version reply fits small = words_are_note (codes "s11 version") refl
message_is_note message_bad.Piggyback reply fits small = words_are_note (codes "s11 piggyback") refl
message_is_note message_bad.Length reply fits small = words_are_note (codes "s11 length") refl
message_is_note message_bad.Kind reply fits small = words_are_note (codes "s11 kind") refl
message_is_note (message_bad.Missing kind instance) reply fits small =
    element_is_note (codes "s11 missing") kind instance reply refl fits.0 fits.1 small
message_is_note (message_bad.Incorrect kind instance) reply fits small =
    element_is_note (codes "s11 incorrect") kind instance reply refl fits.0 fits.1 small
message_is_note message_bad.NoMemory reply fits small = words_are_note (codes "s11 memory") refl

pub tunnel_is_note : (bad : UBad) → IsNote (tunnel_note bad)
tunnel_is_note tunnel_bad.Short = words_are_note (codes "s1u short") refl
tunnel_is_note tunnel_bad.Version = words_are_note (codes "s1u version") refl
tunnel_is_note tunnel_bad.NotGtp = words_are_note (codes "s1u notgtp") refl
tunnel_is_note tunnel_bad.Length = words_are_note (codes "s1u length") refl
tunnel_is_note tunnel_bad.Extension = words_are_note (codes "s1u extension") refl
tunnel_is_note tunnel_bad.Kind = words_are_note (codes "s1u kind") refl

pub carried_is_note : (bad : IpBad) → IsNote (carried_note bad)
carried_is_note ip_bad.Short = words_are_note (codes "s1u ip short") refl
carried_is_note ip_bad.Version = words_are_note (codes "s1u ip version") refl
carried_is_note ip_bad.Header = words_are_note (codes "s1u ip header") refl
carried_is_note ip_bad.Total = words_are_note (codes "s1u ip total") refl

pub packet_is_note : (bad : IpBad) → IsNote (packet_note bad)
packet_is_note ip_bad.Short = words_are_note (codes "sgi ip short") refl
packet_is_note ip_bad.Version = words_are_note (codes "sgi ip version") refl
packet_is_note ip_bad.Header = words_are_note (codes "sgi ip header") refl
packet_is_note ip_bad.Total = words_are_note (codes "sgi ip total") refl

pub template_is_note : (bad : TBad) → IsNote (template_note bad)
template_is_note template_bad.Short = words_are_note (codes "tft short") refl
template_is_note template_bad.Parameters = words_are_note (codes "tft parameters") refl
template_is_note template_bad.Operation = words_are_note (codes "tft operation") refl
template_is_note template_bad.Component = words_are_note (codes "tft component") refl
template_is_note template_bad.RepeatedId = words_are_note (codes "tft repeated") refl
template_is_note template_bad.Trailing = words_are_note (codes "tft trailing") refl
template_is_note template_bad.NoMemory = words_are_note (codes "tft memory") refl

-- a move
moved_note : (word : List ℕ) (slot slice : ℕ) → is_words word ≡ true → slot < 2 ^ 64 → slice < 2 ^ 64
    → IsNote ((word ++ 32 ∷ decimal slot) ++ 32 ∷ decimal slice)
moved_note word slot slice is few known =
    let first : List ℕ = word ++ 32 ∷ decimal slot in
    note_of (first ++ 32 ∷ decimal slice)
    (some_before first (decimal slice) (some_before word (decimal slot) (words_some word is)))
    (behind_space first (decimal slice)
    (behind_space word (decimal slot) (words_print word is) (decimal_prints slot few)) (decimal_prints slice known))

move_by : (stays : Bool) (slot slice : ℕ) → slot < 2 ^ 64 → slice < 2 ^ 64
    → IsNote (((if stays then codes "stay" else codes "move") ++ 32 ∷ decimal slot) ++ 32 ∷ decimal slice)
move_by true slot slice few known = moved_note (codes "stay") slot slice refl few known
move_by false slot slice few known = moved_note (codes "move") slot slice refl few known

pub move_is_note : (destination slot slice : ℕ) → slot < 2 ^ 64 → slice < 2 ^ 64
    → IsNote (move_note destination slot slice)
move_is_note destination slot slice few known = move_by (slice == destination) slot slice few known
