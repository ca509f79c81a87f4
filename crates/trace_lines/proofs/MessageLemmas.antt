-- A message's octets are the rest of a line: no digit is a space.
use Rattle.std.proofs.Common.{◌≡◌, ◌≢◌, ℕ, Bool, true, false, ◌<◌, List, [], ◌∷◌, length, All, refl, sym, ap, ◌∙◌, arith, Option, Some, None, Ok, Err, cond, ◌==◌}
use Rattle.std.specs.Int.{w32, from_be_bytes}
use Rattle.std.specs.List.{join_with_byte}
use Rattle.std.specs.Option.{ok_or, option_map}
use Rattle.std.proofs.lemmas.List.Elements.{All-cons, All-head, All-tail, All-nil}
use Rattle.std.proofs.lemmas.List.Splits.{length-slice_split}
use Rattle.hex.specs.Hex.{encode_lower}
use Rattle.text_fields.specs.Fields.{space, pieces}
use Rattle.text_fields.specs.Hexadecimal.{lower, in_lower_case, octets_of}
use Rattle.text_fields.proofs.FieldLemmas.{pieces-joined, joined-pieces}
use Rattle.trace_lines.specs.declared.bad.LineBad.{LineBad}
use Rattle.trace_lines.specs.declared.bad.LineBad.TheVariants.{Hex, Field}
use Rattle.trace_lines.specs.Arguments.{teid_of}
use Rattle.trace_lines.specs.Meaning.{message_meaning}
use Rattle.text_fields.proofs.PlainLemmas.{field-encode_lower}
use Rattle.trace_lines.proofs.FormLemmas.{octets_given}

lacks_before : (text other : List ℕ) → in_lower_case text ≡ other → All (λ octet. octet ≢ 32) other
    → All (λ octet. octet ≢ 32) text
lacks_before [] other same lacks = All-nil (λ octet. octet ≢ 32)
lacks_before (octet ∷ text) [] same lacks = cc
lacks_before (octet ∷ text) (first ∷ other) same lacks =
    let head : lower octet ≡ first = cc in
    let tail : in_lower_case text ≡ other = cc in
    let isnt = All-head (λ o. o ≢ 32) first other lacks in
    All-cons (λ o. o ≢ 32) octet text (λ space. isnt (sym head ∙ ap lower space))
    (lacks_before text other tail (All-tail (λ o. o ≢ 32) first other lacks))

octets_lack : (text octets : List ℕ) → octets_of text ≡ Some octets → All (λ octet. octet ≢ 32) text
octets_lack text octets read =
    let given = octets_given text octets read in
    let field = field-encode_lower octets given.1.0 given.1.1 in
    lacks_before text (encode_lower octets) given.0 (λ k d inside. (field.plain k d inside).0)

some_from_ok : (value : Option (List ℕ)) (octets : List ℕ) → ok_or value Hex ≡ Ok octets → value ≡ Some octets
some_from_ok (Some other) octets is = let same : other ≡ octets = cc in ap Some same
some_from_ok None octets is = cc

-- octets stand alone
pub message_read : (text octets : List ℕ) → ok_or (octets_of text) Hex ≡ Ok octets
    → message_meaning (pieces space text) ≡ Ok octets
message_read text octets read =
    let some = some_from_ok (octets_of text) octets read in
    ap message_meaning (pieces-joined space text [] (octets_lack text octets some, tt)) ∙ read

-- two pieces are no message
two_or_more : (first : List ℕ) (texts : List (List ℕ)) → 0 < length texts → message_meaning (first ∷ texts) ≡ Err Field
two_or_more first [] some = absurd (omega arith)
two_or_more first (text ∷ texts) some = refl

pub message_more : (text first rest : List ℕ) → pieces space text ≡ first ∷ pieces space rest
    → message_meaning (pieces space text) ≡ Err Field
message_more text first rest cut =
    ap message_meaning cut
    ∙ two_or_more first (pieces space rest) (omega (arith, length-slice_split (λ octet. octet == space) rest))

-- one piece is the text
alone : (text first : List ℕ) (texts : List (List ℕ)) → pieces space text ≡ texts → texts ≡ first ∷ [] → first ≡ text
alone text first texts is one = sym (ap (join_with_byte space) (is ∙ one)) ∙ joined-pieces space text

pub message_alone : (text first : List ℕ) (why : LineBad) → pieces space text ≡ first ∷ []
    → ok_or (octets_of text) Hex ≡ Err why
    → message_meaning (pieces space text) ≡ Err why
message_alone text first why one refused =
    ap message_meaning one ∙ ap (λ t. ok_or (octets_of t) Hex) (alone text first (pieces space text) refl one) ∙ refused

-- no TEID
both_none : (b : Bool) → cond {A = Option ℕ} b None None ≡ None
both_none true = refl
both_none false = refl

pub teid_none : (text : List ℕ) → octets_of text ≡ None → teid_of text ≡ None
teid_none text none =
    ap (λ (o : Option (List ℕ)). cond (length text == 8) (option_map (λ o. from_be_bytes w32 o) o) None) none
    ∙ both_none (length text == 8)
