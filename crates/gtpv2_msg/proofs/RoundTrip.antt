-- A written message reads back.
use Rattle.std.proofs.Common.{◌≡◌, ℕ, ◌+◌, ◌-◌, Bool, true, false, eqb, cond, ◌&&◌, List, [], ◌∷◌, ◌++◌, length, take, map, Option, Some, None, refl, sym, ap, subst, ◌∙◌, append_assoc, arith, length-append}
use Rattle.std.specs.List.{cons_option, AllByRecursion}
use Rattle.std.specs.Option.{option_map}
use Rattle.std.proofs.Math.Seq.{take-append_seam}
use Rattle.gtpv2_ie.specs.declared.context.Context.{Context}
use Rattle.gtpv2_ie.specs.declared.raw.RawIe.{RawIe}
use Rattle.gtpv2_ie.specs.declared.value.IeValue.{IeValue}
use Rattle.gtpv2_ie.specs.declared.value.IeValue.TheVariants as values
use Rattle.gtpv2_ie.specs.Element.{Element}
use Rattle.gtpv2_ie.specs.Kind.{type_octet}
use Rattle.wire_octets.proofs.NumberLemmas.{be16-again, be24-again, be32-again}
use Rattle.wire_octets.specs.Numbers.{be16_at, be16_octets}
use Rattle.gtpv2_ie.specs.ReadBack.{end_of, places_by, places, AreReadAs, ReadBack}
use Rattle.gtpv2_ie.specs.Spelling.{kind_of, plain_octets, empty_context, context_elements, context_octets, spelling, spellings}
use Rattle.gtpv2_ie.specs.Validity.{IsContext, IsElement, IsValue}
use Rattle.gtpv2_ie.specs.Value.{context_of}
use Rattle.gtpv2_ie.proofs.StandLemmas.{ies_of-Stand}
use Rattle.gtpv2_ie.proofs.ReadBackLemmas.{value_is, written_stand, written_read}
use Rattle.gtpv2_ie.proofs.ContextReadBack.{context_written, read_back}
use Rattle.gtpv2_msg.specs.declared.element.ReadIe.{ReadIe}
use Rattle.gtpv2_msg.specs.Elements.{read_ies, elements_in, elements_of, contexts_in, known_of}
use Rattle.gtpv2_msg.specs.Message.{Message}
use Rattle.gtpv2_msg.specs.Header.{body_of}
use Rattle.gtpv2_msg.specs.Reading.{IsBody, IsHeader, Spells}
use Rattle.gtpv2_msg.specs.Spelling.{header_octets, spelling as message_spelling}
use Rattle.gtpv2_msg.specs.HasRequired.{MeetsRow, HasRequired, as_read, context_as_read, contexts_as_read}
use Rattle.gtpv2_msg.specs.Lookup.{first_context, contexts_of}
use Rattle.gtpv2_msg.specs.Required.{required}
use Rattle.gtpv2_msg.specs.RowFault.{row_fault}
use Rattle.gtpv2_msg.specs.Validity.{IsMessage}
use Rattle.gtpv2_msg.proofs.MeetsLemmas.{meets_no_fault}

-- ---- elements

-- what reads as elements is seen as they are
pub seen_as : (octets : List ℕ) (raws : List RawIe) (ies : List Element) → AreReadAs context_of octets raws ies
    → read_ies octets raws ≡ map as_read ies
seen_as octets [] [] read = refl
seen_as octets [] (ie ∷ ies) read = absurd read
seen_as octets (raw ∷ raws) [] read = absurd read
seen_as octets (raw ∷ raws) (ie ∷ ies) read =
    ap (λ (value : Option IeValue). seen raw.kind raw.instance value ∷ read_ies octets raws) read.0.value
    ∙ ap (λ (kind : ℕ). seen kind raw.instance (Some ie.value) ∷ read_ies octets raws) read.0.kind
    ∙ ap (λ (instance : ℕ). seen (type_octet (kind_of ie.value)) instance (Some ie.value)
    ∷ read_ies octets raws) read.0.instance
    ∙ ap (λ (rest : List ReadIe). as_read ie ∷ rest) (seen_as octets raws ies read.1)
  where
    seen : ℕ → ℕ → Option IeValue → ReadIe
    seen kind instance value =
        record {
          kind = kind;
          instance = instance;
          element =
              option_map (λ v. record { instance = instance; value = v }) value;
        }

pub known_again : (ies : List Element) → known_of (map as_read ies) ≡ ies
known_again [] = refl
known_again (ie ∷ ies) = ap (λ (rest : List Element). ie ∷ rest) (known_again ies)

-- ---- the elements of a Context

-- the elements in a written Context are those that it is written as
elements_again : (c : Context) → IsContext c → elements_of (context_octets c) ≡ Some (map as_read (context_elements c))
elements_again c is =
    let ies : List Element = context_elements c in
    let written = context_written context_of c is in
    ap (elements_in (context_octets c))
    (ies_of-Stand (context_octets c) (places_by empty_context 0 ies)
    (written_stand empty_context context_of ies written))
    ∙ ap Some (seen_as (context_octets c) (places_by empty_context 0 ies) ies
    (written_read empty_context context_of ies written))

-- ---- the Contexts of a message

-- a Context that was written, as the table sees it
abbrev own_context : Element → Option (Option (List ReadIe))
own_context ie = option_map context_as_read (first_context ie)

no_context : (test : Bool) → let none : Option Context = None in option_map context_as_read (cond test none none) ≡ None
no_context true = refl
no_context false = refl

a_context : (test : Bool) (c : Context) (ies : Option (List ReadIe)) → ies ≡ context_as_read c
    → cond test (Some ies) None ≡ option_map context_as_read (cond test (Some c) None)
a_context true c ies is = ap Some is
a_context false c ies is = refl

own_again : (instance : ℕ) (value : IeValue) (octets : List ℕ) → IsValue value
    → octets ≡ plain_octets context_octets value
    → cond (eqb (type_octet (kind_of value)) 93 && eqb instance 0) (Some (elements_of octets)) None
    ≡ own_context (record { instance = instance; value = value })
own_again instance (values.Context c) octets is octets_are =
    a_context (eqb instance 0) c (elements_of octets) (ap elements_of octets_are ∙ elements_again c is)
own_again instance _ octets is octets_are = sym (no_context (eqb instance 0))

own_behind : (first : Option Context) (rest : List Context)
    → cons_option (option_map context_as_read first) (map context_as_read rest)
    ≡ map context_as_read (cons_option first rest)
own_behind None rest = refl
own_behind (Some c) rest = refl

contexts_behind : (prefix : List ℕ) (ies : List Element) → AllByRecursion IsElement ies
    → contexts_in (prefix ++ spellings ies) (places_by context_octets (length prefix) ies) ≡ contexts_as_read ies
contexts_behind prefix [] are = refl
contexts_behind prefix (ie ∷ ies) are =
    let text : List ℕ = spelling ie in
    let rest : List ℕ = spellings ies in
    let octets_are : (prefix ++ text) ++ rest ≡ prefix ++ (text ++ rest) = append_assoc prefix text rest in
    let behind : length (prefix ++ text) ≡ end_of context_octets (length prefix) ie =
    length-append prefix text ∙ omega arith in
    let later = contexts_behind (prefix ++ text) ies are.1 in
    let moved : contexts_in ((prefix ++ text) ++ rest)
    (places_by context_octets (end_of context_octets (length prefix) ie) ies) ≡ contexts_as_read ies =
    subst (λ (k : ℕ). contexts_in ((prefix ++ text) ++ rest) (places_by context_octets k ies)
    ≡ contexts_as_read ies) behind later in
    let others : contexts_in (prefix ++ (text ++ rest))
    (places_by context_octets (end_of context_octets (length prefix) ie) ies) ≡ contexts_as_read ies =
    subst (λ (octets : List ℕ). contexts_in octets
    (places_by context_octets (end_of context_octets (length prefix) ie) ies) ≡ contexts_as_read ies) octets_are moved in
    ap (λ (first : Option (Option (List ReadIe))). cons_option first
    (contexts_in (prefix ++ (text ++ rest)) (places_by context_octets (end_of context_octets (length prefix) ie) ies)))
    (own_again ie.instance ie.value _ are.0.value
    (value_is prefix rest (plain_octets context_octets ie.value) (type_octet (kind_of ie.value)) ie.instance))
    ∙ ap (cons_option (own_context ie)) others ∙ own_behind (first_context ie) (contexts_of ies)

-- the elements of a message that has what its type asks for read back
pub body_again : (kind : ℕ) (ies : List Element) → AllByRecursion IsElement ies → MeetsRow (required kind) ies
    → IsBody kind (spellings ies) ies
body_again kind ies are has =
    let back : ReadBack (spellings ies) ies = read_back ies are in
    let seen : read_ies (spellings ies) (places ies) ≡ map as_read ies =
    seen_as (spellings ies) (places ies) ies back.read in
    let contexts : contexts_in (spellings ies) (places ies) ≡ contexts_as_read ies = contexts_behind [] ies are in
    record {
      raws = places ies;
      stand = back.stand;
      required = ap (λ (read : List ReadIe). row_fault (required kind) read
          (contexts_in (spellings ies) (places ies))) seen
          ∙ ap (row_fault (required kind) (map as_read ies)) contexts ∙ meets_no_fault (required kind) ies has;
      known = ap known_of seen ∙ known_again ies;
    }

-- ---- the header

-- the elements behind a header, whatever is behind them
body_behind : (body more : List ℕ) (from end : ℕ) → end ≡ from + length body → take (end - from) (body ++ more) ≡ body
body_behind body more from end is =
    let len : end - from ≡ length body = omega (arith, is) in
    ap (λ n. take n (body ++ more)) len ∙ take-append_seam body more

-- a written header and octets behind it
abbrev written : ℕ → Option ℕ → ℕ → List ℕ → List ℕ → List ℕ
written kind teid seq body more = header_octets kind teid seq (length body) ++ (body ++ more)

pub header_again : (kind : ℕ) (teid : Option ℕ) (seq : ℕ) (ies : List Element) (more : List ℕ)
    → IsMessage (record { kind = kind; teid = teid; seq = seq; ies = ies })
    → IsHeader (written kind teid seq (spellings ies) more) (record { kind = kind; teid = teid; seq = seq; ies = ies })
    × (body_of (written kind teid seq (spellings ies) more) ≡ spellings ies)
header_again kind None seq ies more is =
    let body : List ℕ = spellings ies in
    let len : be16_at (be16_octets (4 + length body)) 0 ≡ 4 + length body =
    be16-again (4 + length body) [] (omega (arith, is.len)) in
    let end : 4 + be16_at (be16_octets (4 + length body)) 0 ≡ 8 + length body = omega (arith, len) in (
      record {
        right = record {
          least = omega arith;
          version = refl;
          alone = refl;
          whole = omega (arith, end);
          inside = omega (arith, end, length-append body more);
          kind = is.kind;
        };
        kind = refl;
        teid = refl;
        seq = be24-again seq [] is.seq;
      },
      body_behind body more 8 _ end,
    )
header_again kind (Some teid) seq ies more is =
    let body : List ℕ = spellings ies in
    let len : be16_at (be16_octets (8 + length body)) 0 ≡ 8 + length body =
    be16-again (8 + length body) [] (omega (arith, is.len)) in
    let end : 4 + be16_at (be16_octets (8 + length body)) 0 ≡ 12 + length body = omega (arith, len) in (
      record {
        right = record {
          least = omega arith;
          version = refl;
          alone = refl;
          whole = omega (arith, end);
          inside = omega (arith, end, length-append body more);
          kind = is.kind;
        };
        kind = refl;
        teid = ap Some (be32-again teid [] is.teid);
        seq = be24-again seq [] is.seq;
      },
      body_behind body more 12 _ end,
    )

-- a written message and octets behind it spell the message
pub spells_again : (message : Message) (more : List ℕ) → IsMessage message → AllByRecursion IsElement message.ies
    → HasRequired message
    → Spells (message_spelling message ++ more) message
spells_again message more is are has =
    let head = header_again message.kind message.teid message.seq message.ies more is in
    let text : List ℕ = written message.kind message.teid message.seq (spellings message.ies) more in
    let octets_are : message_spelling message ++ more ≡ text =
    append_assoc (header_octets message.kind message.teid message.seq (length (spellings message.ies)))
    (spellings message.ies) more in
    subst (λ (octets : List ℕ). Spells octets message) (sym octets_are) (record {
      header = head.0;
      body = subst (λ (body : List ℕ). IsBody message.kind body message.ies) (sym head.1)
          (body_again message.kind message.ies are has);
    })
