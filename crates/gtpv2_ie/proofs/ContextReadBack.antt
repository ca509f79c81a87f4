-- A written Context, and with it every written element, reads back.
use Rattle.std.proofs.Common.{◌≡◌, ℕ, ◌^◌, ◌<◌, List, [], ◌∷◌, ◌++◌, length, map, Option, Some, None, refl, ap, subst, ◌∙◌, arith, lit<}
use Rattle.std.specs.Prelude.{IfSome}
use Rattle.std.specs.List.{filter_map, cons_option, AllByRecursion}
use Rattle.std.specs.Option.{option_map, option_or}
use Rattle.std.proofs.lemmas.List.{append-nil}
use Rattle.std.proofs.lemmas.List.Elements.{filter_map-append}
use Rattle.gtpv2_ie.specs.declared.cause.CauseIe.{CauseIe}
use Rattle.gtpv2_ie.specs.declared.context.Context.{Context}
use Rattle.gtpv2_ie.specs.declared.fteid.Fteid.{Fteid}
use Rattle.gtpv2_ie.specs.declared.value.IeValue.{IeValue}
use Rattle.gtpv2_ie.specs.declared.value.IeValue.TheVariants as values
use Rattle.gtpv2_ie.specs.Context.{first_of, ebi_value, cause_value, tft_value, qos_value, fteid_value, context_with}
use Rattle.gtpv2_ie.specs.Element.{Element}
use Rattle.gtpv2_ie.specs.Kind.{no_context, type_octet}
use Rattle.gtpv2_ie.specs.ReadBack.{ReadBack, places_by}
use Rattle.gtpv2_ie.specs.Spelling.{kind_of, plain_octets, empty_context, if_some, fteid_element, context_elements, context_octets, spelling, spellings}
use Rattle.gtpv2_ie.specs.Validity.{IsEbi, IsCause, IsFteid, IsQos, IsOctets, IsContext, IsValue, IsElement}
use Rattle.gtpv2_ie.specs.Value.{value_at, context_in, context_of}
use Rattle.gtpv2_ie.proofs.ContextLemmas.{option_or-None, option_or_assoc}
use Rattle.gtpv2_ie.proofs.ReadBackLemmas.{IsWritten, written_stand, written_read, read_elements}
use Rattle.gtpv2_ie.proofs.StandLemmas.{ies_of-Stand}
use Rattle.gtpv2_ie.proofs.ValueLemmas.{IsPlain, plain_again, plain_len, not_shorter}
use Rattle.gtpv2_ie.proofs.ImsiLemmas.{AllByRecursion-append}

-- ---- the first value of each type among the elements of a Context

first_of-append : {X : Type 0} (part : Element → Option X) (xs ys : List Element)
    → first_of part (xs ++ ys) ≡ option_or (first_of part xs) (first_of part ys)
first_of-append part [] ys = refl
first_of-append part (x ∷ xs) ys =
    ap (option_or (part x)) (first_of-append part xs ys)
    ∙ option_or_assoc (part x) (first_of part xs) (first_of part ys)

-- the parts of a Context: those before the F-TEIDs, the F-TEIDs, and the one behind them
first_of-parts : {X : Type 0} (part : Element → Option X) (e c t f q : List Element)
    → first_of part (e ++ c ++ t ++ f ++ q)
    ≡ option_or (option_or (option_or (option_or (first_of part e) (first_of part c)) (first_of part t))
    (first_of part f)) (first_of part q)
first_of-parts part e c t f q =
    rw (
      first_of-append part (e ++ c ++ t ++ f) q,
      first_of-append part (e ++ c ++ t) f,
      first_of-append part
          (e ++ c) t,
      first_of-append part e c,
    ) refl

-- what gives no value of a type, and what gives one
none_of-if_some : {X Y : Type 0} (part : IeValue → Option X) (value : Y → IeValue) (o : Option Y)
    → ((y : Y) → part (value y) ≡ None)
    → first_of (λ ie. part ie.value) (if_some value o) ≡ None
none_of-if_some part value None other = refl
none_of-if_some part value (Some y) other = ap (λ (r : Option _). option_or r None) (other y)

some_of-if_some : {X : Type 0} (part : IeValue → Option X) (value : X → IeValue) (o : Option X)
    → ((x : X) → part (value x) ≡ Some x)
    → first_of (λ ie. part ie.value) (if_some value o) ≡ o
some_of-if_some part value None same = refl
some_of-if_some part value (Some x) same = ap (λ (r : Option _). option_or r None) (same x)

none_of-fteids : {X : Type 0} (part : IeValue → Option X) (fteids : List (ℕ × Fteid))
    → ((f : Fteid) → part (values.Fteid f) ≡ None)
    → first_of (λ ie. part ie.value) (map fteid_element fteids) ≡ None
none_of-fteids part [] other = refl
none_of-fteids part (f ∷ fteids) other =
    ap (λ (r : Option _). option_or r (first_of (λ ie. part ie.value) (map fteid_element fteids))) (other f.1)
    ∙ none_of-fteids part fteids other

by_first : {X : Type 0} (o : Option X) → option_or (option_or (option_or (option_or o None) None) None) None ≡ o
by_first None = refl
by_first (Some x) = refl

ebi_again : (c : Context) → first_of (λ ie. ebi_value ie.value) (context_elements c) ≡ c.ebi
ebi_again c =
    first_of-parts (λ ie. ebi_value ie.value) (if_some values.Ebi c.ebi) (if_some values.Cause c.cause)
    (if_some values.Tft c.tft) (map fteid_element c.fteids) (if_some values.Qos c.qos)
    ∙ rw (
      some_of-if_some ebi_value values.Ebi c.ebi (λ _. refl),
      none_of-if_some ebi_value values.Cause c.cause (λ _. refl),
      none_of-if_some ebi_value values.Tft c.tft (λ _. refl),
      none_of-fteids ebi_value c.fteids (λ _. refl),
      none_of-if_some ebi_value values.Qos c.qos (λ _. refl),
    ) (by_first c.ebi)

cause_again : (c : Context) → first_of (λ ie. cause_value ie.value) (context_elements c) ≡ c.cause
cause_again c =
    first_of-parts (λ ie. cause_value ie.value) (if_some values.Ebi c.ebi) (if_some values.Cause c.cause)
    (if_some values.Tft c.tft) (map fteid_element c.fteids) (if_some values.Qos c.qos)
    ∙ rw (
      none_of-if_some cause_value values.Ebi c.ebi (λ _. refl),
      some_of-if_some cause_value values.Cause c.cause (λ _. refl),
      none_of-if_some cause_value values.Tft c.tft (λ _. refl),
      none_of-fteids cause_value c.fteids (λ _. refl),
      none_of-if_some cause_value values.Qos c.qos (λ _. refl),
    ) (ap (λ (o : Option CauseIe). option_or (option_or o None) None) (option_or-None c.cause)
    ∙ ap (λ (o : Option CauseIe). option_or o None) (option_or-None c.cause) ∙ option_or-None c.cause)

tft_again : (c : Context) → first_of (λ ie. tft_value ie.value) (context_elements c) ≡ c.tft
tft_again c =
    first_of-parts (λ ie. tft_value ie.value) (if_some values.Ebi c.ebi) (if_some values.Cause c.cause)
    (if_some values.Tft c.tft) (map fteid_element c.fteids) (if_some values.Qos c.qos)
    ∙ rw (
      none_of-if_some tft_value values.Ebi c.ebi (λ _. refl),
      none_of-if_some tft_value values.Cause c.cause (λ _. refl),
      some_of-if_some tft_value values.Tft c.tft (λ _. refl),
      none_of-fteids tft_value c.fteids (λ _. refl),
      none_of-if_some tft_value values.Qos c.qos (λ _. refl),
    ) (ap (λ (o : Option (List ℕ)). option_or o None) (option_or-None c.tft) ∙ option_or-None c.tft)

qos_again : (c : Context) → first_of (λ ie. qos_value ie.value) (context_elements c) ≡ c.qos
qos_again c =
    first_of-parts (λ ie. qos_value ie.value) (if_some values.Ebi c.ebi) (if_some values.Cause c.cause)
    (if_some values.Tft c.tft) (map fteid_element c.fteids) (if_some values.Qos c.qos)
    ∙ rw (
      none_of-if_some qos_value values.Ebi c.ebi (λ _. refl),
      none_of-if_some qos_value values.Cause c.cause (λ _. refl),
      none_of-if_some qos_value values.Tft c.tft (λ _. refl),
      none_of-fteids qos_value c.fteids (λ _. refl),
      some_of-if_some qos_value values.Qos c.qos (λ _. refl),
    ) refl

-- ---- the F-TEIDs among them

abbrev fteid_part : Element → Option (ℕ × Fteid)
fteid_part ie = fteid_value ie.instance ie.value

no_fteid : {Y : Type 0} (value : Y → IeValue) (o : Option Y) → ((y : Y) → fteid_value 0 (value y) ≡ None)
    → filter_map fteid_part (if_some value o) ≡ []
no_fteid value None other = refl
no_fteid value (Some y) other = ap (λ (r : Option (ℕ × Fteid)). cons_option r []) (other y)

all_fteids : (fteids : List (ℕ × Fteid)) → filter_map fteid_part (map fteid_element fteids) ≡ fteids
all_fteids [] = refl
all_fteids (f ∷ fteids) = ap (λ (rest : List (ℕ × Fteid)). f ∷ rest) (all_fteids fteids)

fteids_again : (c : Context) → filter_map fteid_part (context_elements c) ≡ c.fteids
fteids_again c =
    let e : List Element = if_some values.Ebi c.ebi in
    let s : List Element = if_some values.Cause c.cause in
    let t : List Element = if_some values.Tft c.tft in
    let f : List Element = map fteid_element c.fteids in
    let q : List Element = if_some values.Qos c.qos in
    rw (
      filter_map-append fteid_part (e ++ s ++ t ++ f) q,
      filter_map-append fteid_part (e ++ s ++ t) f,
      filter_map-append fteid_part (e ++ s) t,
      filter_map-append fteid_part e s,
      no_fteid values.Ebi c.ebi (λ _. refl),
      no_fteid values.Cause c.cause (λ _. refl),
      no_fteid values.Tft c.tft (λ _. refl),
      all_fteids c.fteids,
      no_fteid values.Qos c.qos (λ _. refl),
    ) (append-nil c.fteids)

-- a Context is that of the elements that it is written as
pub context_again : (c : Context) → context_with (context_elements c) ≡ c
context_again c = rw (ebi_again c, cause_again c, tft_again c, fteids_again c, qos_again c) refl

-- ---- the elements that a Context is written as are written well, however a Context among them is read

module _ (reads : List ℕ → Option Context) where
  abbrev IsInner : Element → Type 0
  IsInner ie = IsWritten empty_context reads ie

  plain_written : (instance : ℕ) (value : IeValue) → instance < 16 → IsPlain value → IsValue value
      → IsInner (record { instance = instance; value = value })
  plain_written instance value low plain is = record {
    instance = low;
    len = plain_len empty_context value plain is;
    again = plain_again reads empty_context value plain is;
  }

  optional_written : {X : Type 0} (value : X → IeValue) (IsPart : X → Type 0) (o : Option X)
      → ((x : X) → IsPart x → IsInner (record { instance = 0; value = value x }))
      → IfSome o IsPart → AllByRecursion IsInner (if_some value o)
  optional_written value IsPart None each is = tt
  optional_written value IsPart (Some x) each is = (each x is, tt)

  fteids_written : (fteids : List (ℕ × Fteid)) → AllByRecursion (λ fteid. (fteid.0 < 16) × IsFteid fteid.1) fteids
      → AllByRecursion IsInner (map fteid_element fteids)
  fteids_written [] are = tt
  fteids_written (f ∷ fteids) are = (plain_written f.0 (values.Fteid f.1) are.0.0 tt are.0.1, fteids_written fteids are.1)

  pub context_written : (c : Context) → IsContext c → AllByRecursion (IsWritten empty_context reads) (context_elements c)
  context_written c is =
      let ebi = optional_written values.Ebi IsEbi c.ebi (λ x p. plain_written 0 (values.Ebi x) (lit< tt) tt p) is.ebi in
      let cause = optional_written values.Cause IsCause c.cause
      (λ x p. plain_written 0 (values.Cause x) (lit< tt) tt p) is.cause in
      let tft = optional_written values.Tft (IsOctets 1000) c.tft
      (λ x p. plain_written 0 (values.Tft x) (lit< tt) tt p) is.tft in
      let fteids = fteids_written c.fteids is.fteids in
      let qos = optional_written values.Qos IsQos c.qos (λ x p. plain_written 0 (values.Qos x) (lit< tt) tt p) is.qos in
      both _ _ (both _ _ (both _ _ (both _ _ ebi cause) tft) fteids) qos
    where
      both : (xs ys : List Element) → AllByRecursion IsInner xs → AllByRecursion IsInner ys
          → AllByRecursion IsInner (xs ++ ys)
      both xs ys = AllByRecursion-append IsInner xs ys

-- the octets of a Context spell it
pub context_of-octets : (c : Context) → IsContext c → context_of (context_octets c) ≡ Some c
context_of-octets c is =
    let ies : List Element = context_elements c in
    let written = context_written no_context c is in
    let stand = written_stand empty_context no_context ies written in
    let read = written_read empty_context no_context ies written in
    ap (context_in (context_octets c)) (ies_of-Stand (context_octets c) (places_by empty_context 0 ies) stand)
    ∙ ap (λ (inner : List Element). Some (context_with inner))
    (read_elements no_context (context_octets c) (places_by empty_context 0 ies) ies read)
    ∙ ap Some (context_again c)

-- the octets of a value spell it, at its type
pub value_again : (value : IeValue) → IsValue value
    → value_at context_of (type_octet (kind_of value)) (plain_octets context_octets value) ≡ Some value
value_again (values.Context c) is =
    not_shorter 0 (length (context_octets c)) None _ (omega arith)
    ∙ ap (option_map values.Context) (context_of-octets c is)
value_again value is = plain_again context_of context_octets value tt is

value_len : (value : IeValue) → IsValue value → length (plain_octets context_octets value) < 2 ^ 16
value_len (values.Context c) is = is.len
value_len value is = plain_len context_octets value tt is

pub element_written : (ie : Element) → IsElement ie → IsWritten context_octets context_of ie
element_written ie is =
    record { instance = is.instance; len = value_len ie.value is.value; again = value_again ie.value is.value }

elements_written : (ies : List Element) → AllByRecursion IsElement ies
    → AllByRecursion (IsWritten context_octets context_of) ies
elements_written [] are = tt
elements_written (ie ∷ ies) are = (element_written ie are.0, elements_written ies are.1)

-- written elements read back
pub read_back : (ies : List Element) → AllByRecursion IsElement ies → ReadBack (spellings ies) ies
read_back ies are =
    let written = elements_written ies are in
    record {
      stand =
          written_stand context_octets context_of ies written;
      read = written_read context_octets context_of ies written;
    }

-- one written element reads back
pub one_read_back : (ie : Element) → IsElement ie → ReadBack (spelling ie) (ie ∷ [])
one_read_back ie is =
    subst (λ (octets : List ℕ). ReadBack octets (ie ∷ [])) (append-nil (spelling ie)) (read_back (ie ∷ []) (is, tt))
