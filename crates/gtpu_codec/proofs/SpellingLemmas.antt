-- Octets spell one message at most, and then they have no fault.
use Rattle.std.proofs.Common.{◌≡◌, ℕ, Bool, true, false, ◌&&◌, nat_lt, List, ◌∷◌, length, drop, length-take-le, Option, Some, None, is_none, Result, Ok, Err, IfOk, IfErr, IfSome, IsOkAnd, refl, sym, ◌∙◌, ap, subst, arith}
use Rattle.std.specs.Prelude.{slice_index}
use Rattle.std.proofs.lemmas.Bool.{le-ltb}
use Rattle.gtpu_codec.specs.declared.head.GtpUHead.{GtpUHead}
use Rattle.gtpu_codec.specs.declared.kind.GtpUKind.{GtpUKind}
use Rattle.gtpu_codec.specs.declared.kind.GtpUKind.TheVariants.{EchoRequest, EchoResponse, ErrorIndication, EndMarker, Gpdu}
use Rattle.gtpu_codec.specs.declared.fault.UBad.{UBad}
use Rattle.gtpu_codec.specs.Kind.{kind_of, type_octet}
use Rattle.gtpu_codec.specs.Head.{flags_in, type_in, length_in, counted_in, has_extensions, has_options}
use Rattle.gtpu_codec.specs.Extension.{body_behind}
use Rattle.gtpu_codec.specs.Spelling.{Spells, SpellsBody, SpellsCounted}
use Rattle.gtpu_codec.specs.Refusal.{breaks_chain, ends_early, first_fault}
use Rattle.gtpu_codec.proofs.ExtensionLemmas.{chain_is_found}

pub kind_is_found : (kind : GtpUKind) → kind_of (type_octet kind) ≡ Some kind
unfolding kind_of
kind_is_found EchoRequest = refl
kind_is_found EchoResponse = refl
kind_is_found ErrorIndication = refl
kind_is_found EndMarker = refl
kind_is_found Gpdu = refl

one_kind : (kind other : GtpUKind) → type_octet kind ≡ type_octet other → kind ≡ other
one_kind kind other same =
    let both : Some kind ≡ Some other = sym (kind_is_found kind) ∙ ap kind_of same ∙ kind_is_found other in cc

one_body : (extensions : Bool) (next : ℕ) (octets body other : List ℕ)
    → SpellsBody extensions next octets body → SpellsBody extensions next octets other → body ≡ other
one_body true next octets body other chain other_chain =
    let both : Some body ≡ Some other
    = sym (chain_is_found next octets body chain) ∙ chain_is_found next octets other other_chain in cc
one_body false next octets body other same other_same = same ∙ sym other_same

one_counted : (flags : ℕ) (options : Bool) (counted : List ℕ) (seq other_seq : Option ℕ) (body other : List ℕ)
    → SpellsCounted flags options counted seq body → SpellsCounted flags options counted other_seq other
    → (seq ≡ other_seq) × (body ≡ other)
one_counted flags false counted seq other_seq body other here there = (here.0 ∙ sym there.0, here.1 ∙ sym there.1)
one_counted flags true counted seq other_seq body other here there = (
  here.1 ∙ sym there.1,
  one_body (has_extensions flags) (slice_index counted 3) (drop 4 counted) body other here.2 there.2,
)

-- one message
pub one_message : (octets : List ℕ) (head other_head : GtpUHead) (body other : List ℕ)
    → Spells octets head body → Spells octets other_head other → (head ≡ other_head) × (body ≡ other)
one_message octets head other_head body other here there =
    let kind : head.kind ≡ other_head.kind = one_kind head.kind other_head.kind (sym here.3 ∙ there.3) in
    let teid : head.teid ≡ other_head.teid = here.4 ∙ sym there.4 in
    let counted = one_counted (flags_in octets) (has_options (flags_in octets)) (counted_in octets)
    head.seq other_head.seq body other here.6 there.6 in
    ((λ i. record { kind = kind i; teid = teid i; seq = counted.0 i }), counted.1)

-- flag E is one of the flags that ask for four octets
pub extensions_are_options : (flags : ℕ) → has_options flags ≡ false → has_extensions flags ≡ false
extensions_are_options flags none = grind arith

whole_body : (extensions : Bool) (next : ℕ) (octets body : List ℕ) → SpellsBody extensions next octets body
    → (extensions && is_none (body_behind 0 (next ∷ octets))) ≡ false
whole_body true next octets body chain = ap is_none (chain_is_found next octets body chain)
whole_body false next octets body same = refl

whole_chain : (flags : ℕ) (options : Bool) (counted : List ℕ) (seq : Option ℕ) (body : List ℕ)
    → has_options flags ≡ options → SpellsCounted flags options counted seq body → breaks_chain flags counted ≡ false
whole_chain flags false counted seq body none spelled = rw (extensions_are_options flags none) refl
whole_chain flags true counted seq body some spelled =
    whole_body (has_extensions flags) (slice_index counted 3) (drop 4 counted) body spelled.2

whole_options : (flags : ℕ) (options : Bool) (counted : List ℕ) (seq : Option ℕ) (body : List ℕ)
    → SpellsCounted flags options counted seq body → (options && nat_lt (length counted) 4) ≡ false
whole_options flags false counted seq body spelled = refl
whole_options flags true counted seq body spelled = le-ltb (length counted) 4 spelled.0

-- no fault
pub no_fault : (octets : List ℕ) (head : GtpUHead) (body : List ℕ) → Spells octets head body → first_fault octets ≡ None
no_fault octets head body spelled =
    let flags : ℕ = flags_in octets in
    let counted : List ℕ = counted_in octets in
    let rest : List ℕ = drop 8 octets in
    let size : length counted ≡ length_in octets = length-take-le (length_in octets) rest spelled.5 in
    let options : (has_options flags && nat_lt (length_in octets) 4) ≡ false
    = subst (λ n. (has_options flags && nat_lt n 4) ≡ false) size
    (whole_options flags (has_options flags) counted head.seq body spelled.6) in
    let early : ends_early flags (length_in octets) (length rest) ≡ false
    = rw (le-ltb (length rest) (length_in octets) spelled.5) options in
    let chain : breaks_chain flags counted ≡ false
    = whole_chain flags (has_options flags) counted head.seq body refl spelled.6 in
    let known : is_none (kind_of (type_in octets)) ≡ false
    = ap (λ t. is_none (kind_of t)) spelled.3 ∙ ap is_none (kind_is_found head.kind) in
    let whole : nat_lt (length octets) 8 ≡ false = le-ltb (length octets) 8 spelled.0 in
    rw whole (rw spelled.1 (rw spelled.2 (rw early (rw chain (rw known refl)))))

-- What spells a message is read, and each fault is refused: where what is read is spelled, and a refusal is the
-- first fault.
pub both_ways : {X : Type 0} (now : X → List ℕ) (octets : List ℕ) (result : Result (GtpUHead × X) UBad)
    → IfOk result (λ r. Spells octets r.0 (now r.1)) → IfErr result (λ bad. first_fault octets ≡ Some bad)
    → ((head : GtpUHead) (body : List ℕ) → Spells octets head body
    → IsOkAnd result (λ r. (r.0 ≡ head) × (now r.1 ≡ body)))
    × IfSome (first_fault octets) (λ bad. result ≡ Err bad)
both_ways now octets (Ok (found, rest)) spelled fault =
    let none : first_fault octets ≡ None = no_fault octets found (now rest) spelled in
    ((λ head body other. one_message octets found head (now rest) body spelled other), rw none tt)
both_ways now octets (Err bad) spelled fault = (
  (λ head body other. let both : None ≡ Some bad = sym (no_fault octets head body other) ∙ fault in absurd (cc)),
  rw fault refl,
)
