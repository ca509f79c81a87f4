-- A Context that is read keeps the ranges, and is written in no more octets than it was read from.
use Rattle.std.proofs.Common.{◌≡◌, ℕ, ◌+◌, ◌-◌, ◌^◌, ◌<◌, ◌≤◌, List, [], ◌∷◌, ◌++◌, length, get_or, take, map, Option, Some, None, sym, ap, subst, ◌∙◌, arith, length-append}
use Rattle.std.specs.Prelude.{IfSome}
use Rattle.std.specs.List.{cons_option, AllByRecursion}
use Rattle.std.specs.Option.{option_or}
use Rattle.std.proofs.lemmas.List.{take_more, take_all, map-append, append-nil}
use Rattle.std.proofs.lemmas.List.Concat.{flat_map-append}
use Rattle.gtpv2_ie.specs.declared.context.Context.{Context}
use Rattle.gtpv2_ie.specs.declared.fteid.Fteid.{Fteid}
use Rattle.gtpv2_ie.specs.declared.raw.RawIe.{RawIe}
use Rattle.gtpv2_ie.specs.declared.value.IeValue.{IeValue}
use Rattle.gtpv2_ie.specs.declared.value.IeValue.TheVariants as values
use Rattle.gtpv2_ie.specs.Context.{ebi_value, cause_value, tft_value, qos_value, fteid_value, context_with, put_in, put_if, counted_len}
use Rattle.gtpv2_ie.specs.Element.{Element}
use Rattle.gtpv2_ie.specs.Spelling.{empty_context, element_octets, inner_spellings, if_some, fteid_element, offending_octets, context_octets}
use Rattle.gtpv2_ie.specs.Stand.{StandBetween, Stand, value_len}
use Rattle.gtpv2_ie.specs.Validity.{IsEbi, IsCause, IsFteid, IsQos, IsOctets, IsContext, IsValue, IsElement, IsCounted}
use Rattle.gtpv2_ie.proofs.ImsiLemmas.{AllByRecursion-append}

-- the octets that elements take in a Context
abbrev pub inner_len : List Element → ℕ
inner_len ies = length (inner_spellings ies)

pub inner_len-append : (xs ys : List Element) → inner_len (xs ++ ys) ≡ inner_len xs + inner_len ys
inner_len-append xs ys =
    ap length (flat_map-append (element_octets empty_context) xs ys)
    ∙ length-append (inner_spellings xs) (inner_spellings ys)

-- the octets of a Context, part by part
pub length-context_octets : (c : Context) → length (context_octets c)
    ≡ inner_len (if_some values.Ebi c.ebi) + inner_len (if_some values.Cause c.cause) + inner_len
    (if_some values.Tft c.tft)
    + inner_len (map fteid_element c.fteids) + inner_len (if_some values.Qos c.qos)
length-context_octets c =
    let e : List Element = if_some values.Ebi c.ebi in
    let s : List Element = if_some values.Cause c.cause in
    let t : List Element = if_some values.Tft c.tft in
    let f : List Element = map fteid_element c.fteids in
    let q : List Element = if_some values.Qos c.qos in
    omega (
      arith,
      inner_len-append (e ++ s ++ t ++ f) q,
      inner_len-append (e ++ s ++ t) f,
      inner_len-append
          (e ++ s) t,
      inner_len-append e s,
    )

-- an element put in takes no more than its own octets
pub one_part : {X : Type 0} (value : X → IeValue) (old new : Option X)
    → inner_len (if_some value (option_or old new)) ≤ inner_len (if_some value old) + inner_len (if_some value new)
one_part value None new = omega arith
one_part value (Some x) new = omega arith

fteids_part : (old new : List (ℕ × Fteid))
    → inner_len (map fteid_element (old ++ new)) ≡ inner_len (map fteid_element old) + inner_len (map fteid_element new)
fteids_part old new =
    ap inner_len (map-append fteid_element old new) ∙ inner_len-append (map fteid_element old) (map fteid_element new)

abbrev part_len : ℕ → IeValue → ℕ
part_len instance v =
    inner_len (if_some values.Ebi (ebi_value v)) + inner_len (if_some values.Cause (cause_value v)) + inner_len
    (if_some values.Tft (tft_value v))
    + inner_len (map fteid_element (cons_option (fteid_value instance v) [])) + inner_len
    (if_some values.Qos (qos_value v))

part_len_counted : (instance : ℕ) (v : IeValue) → part_len instance v ≤ 4 + counted_len v
part_len_counted instance (values.Ebi ebi) = omega arith
part_len_counted instance (values.Cause cause) =
    omega (arith, ap length (append-nil (offending_octets cause.offending)))
part_len_counted instance (values.Tft octets) = omega (arith, ap length (append-nil octets))
part_len_counted instance (values.Qos qos) = omega arith
part_len_counted instance (values.Fteid fteid) = omega arith
part_len_counted instance v = omega arith

put_in-len : (c : Context) (ie : Element)
    → length (context_octets (put_in c ie)) ≤ length (context_octets c) + (4 + counted_len ie.value)
put_in-len c ie = omega (
  arith,
  length-context_octets c,
  length-context_octets (put_in c ie),
  part_len_counted ie.instance ie.value,
  one_part values.Ebi c.ebi (ebi_value ie.value),
  one_part values.Cause c.cause (cause_value ie.value),
  one_part values.Tft c.tft (tft_value ie.value),
  fteids_part c.fteids (cons_option (fteid_value ie.instance ie.value) []),
  one_part values.Qos c.qos (qos_value ie.value),
)

-- a Context in its ranges that takes at most so many octets
pub record HoldsUpTo (len : ℕ) (c : Context) : Type 0 where
  pub ebi : IfSome c.ebi IsEbi
  pub cause : IfSome c.cause IsCause
  pub tft : IfSome c.tft (IsOctets 1000)
  pub fteids : AllByRecursion (λ fteid. (fteid.0 < 16) × IsFteid fteid.1) c.fteids
  pub qos : IfSome c.qos IsQos
  pub octets : length (context_octets c) ≤ len

if_some_or : {X : Type 0} (P : X → Type 0) (old new : Option X) → IfSome old P → IfSome new P
    → IfSome (option_or old new) P
if_some_or P None new is_old is_new = is_new
if_some_or P (Some x) new is_old is_new = is_old

-- what an element in its ranges gives to a Context is in its range
ebi_valid : (v : IeValue) → IsValue v → IfSome (ebi_value v) IsEbi
ebi_valid (values.Ebi ebi) is = is
ebi_valid v is = tt

cause_valid : (v : IeValue) → IsValue v → IfSome (cause_value v) IsCause
cause_valid (values.Cause cause) is = is
cause_valid v is = tt

tft_valid : (v : IeValue) → IsValue v → IfSome (tft_value v) (IsOctets 1000)
tft_valid (values.Tft octets) is = is
tft_valid v is = tt

qos_valid : (v : IeValue) → IsValue v → IfSome (qos_value v) IsQos
qos_valid (values.Qos qos) is = is
qos_valid v is = tt

abbrev IsEntry : ℕ × Fteid → Type 0
IsEntry fteid = (fteid.0 < 16) × IsFteid fteid.1

fteid_valid : (instance : ℕ) (v : IeValue) → instance < 16 → IsValue v
    → AllByRecursion IsEntry (cons_option (fteid_value instance v) [])
fteid_valid instance (values.Fteid fteid) low is = ((low, is), tt)
fteid_valid instance v low is = tt

put_in-holds : (len : ℕ) (c : Context) (ie : Element) → HoldsUpTo len c → IsElement ie
    → HoldsUpTo (len + (4 + counted_len ie.value)) (put_in c ie)
put_in-holds len c ie holds is = record {
  ebi = if_some_or IsEbi c.ebi (ebi_value ie.value) holds.ebi (ebi_valid ie.value is.value);
  cause = if_some_or IsCause c.cause (cause_value ie.value) holds.cause (cause_valid ie.value is.value);
  tft = if_some_or (IsOctets 1000) c.tft (tft_value ie.value) holds.tft (tft_valid ie.value is.value);
  fteids = AllByRecursion-append IsEntry c.fteids (cons_option (fteid_value ie.instance ie.value) []) holds.fteids
      (fteid_valid ie.instance ie.value is.instance is.value);
  qos = if_some_or IsQos c.qos (qos_value ie.value) holds.qos (qos_valid ie.value is.value);
  octets = omega (arith, holds.octets, put_in-len c ie);
}

longer : (len more : ℕ) (c : Context) → len ≤ more → HoldsUpTo len c → HoldsUpTo more c
longer len more c le holds = record {
  ebi = holds.ebi;
  cause = holds.cause;
  tft = holds.tft;
  fteids = holds.fteids;
  qos = holds.qos;
  octets = omega (arith, holds.octets);
}

-- one element more, if it is inside its grammar
put_if-holds : (len more : ℕ) (c : Context) (ie : Option Element) → HoldsUpTo len c → IfSome ie (IsCounted more)
    → HoldsUpTo (len + (4 + more)) (put_if c ie)
put_if-holds len more c None holds counted = longer len (len + (4 + more)) c (omega arith) holds
put_if-holds len more c (Some ie) holds counted =
    longer (len + (4 + counted_len ie.value)) (len + (4 + more)) (put_in c ie) (omega (arith, counted.no_longer))
    (put_in-holds len c ie holds counted.valid)

-- the octets that raw elements take, with their headers
pub spanned : List RawIe → ℕ
spanned [] = 0
spanned (ie ∷ ies) = 4 + (ie.to - ie.from) + spanned ies

spanned-push : (ies : List RawIe) (ie : RawIe) → spanned (ies ++ ie ∷ []) ≡ spanned ies + (4 + (ie.to - ie.from))
unfolding spanned
spanned-push [] ie = omega arith
spanned-push (first ∷ ies) ie = omega (arith, spanned-push ies ie)

-- what stands takes all the octets
spanned-between : (octets : List ℕ) (at end : ℕ) (ies : List RawIe) → StandBetween octets at ies end
    → at + spanned ies ≡ end
unfolding spanned
spanned-between octets at end [] stand = omega (arith, stand)
spanned-between octets at end (ie ∷ ies) stand =
    let from_is : ie.from ≡ at + 4 = ap (λ (i : RawIe). i.from) stand.0.header in
    let to_is : ie.to ≡ at + 4 + value_len octets at = ap (λ (i : RawIe). i.to) stand.0.header in
    omega (arith, spanned-between octets ie.to end ies stand.1)

pub holds_more : (raws : List RawIe) (i : ℕ) (none : RawIe) (old new : Context) (ie : Option Element) → i < length raws
    → HoldsUpTo (spanned (take i raws)) old
    → IfSome ie (IsCounted ((get_or raws i none).to - (get_or raws i none).from)) → new ≡ put_if old ie
    → HoldsUpTo (spanned (take (i + 1) raws)) new
holds_more raws i none old new ie inside holds counted new_is =
    let len : spanned (take i raws) + (4 + ((get_or raws i none).to - (get_or raws i none).from))
    ≡ spanned (take (i + 1) raws) =
    sym (ap spanned (take_more raws i none inside) ∙ spanned-push (take i raws) (get_or raws i none)) in
    subst (HoldsUpTo (spanned (take (i + 1) raws))) (sym new_is)
    (subst (λ (n : ℕ). HoldsUpTo n (put_if old ie)) len
    (put_if-holds (spanned (take i raws)) ((get_or raws i none).to - (get_or raws i none).from) old ie holds counted))

-- one more element in its range
pub put_holds : (old new : Context) (ie : Element) → HoldsUpTo (length (context_octets old)) old → IsElement ie
    → new ≡ put_in old ie → HoldsUpTo (length (context_octets new)) new
put_holds old new ie holds is new_is =
    let put = put_in-holds (length (context_octets old)) old ie holds is in
    subst (λ (c : Context). HoldsUpTo (length (context_octets c)) c) (sym new_is)
    (record {
      ebi = put.ebi;
      cause = put.cause;
      tft = put.tft;
      fteids = put.fteids;
      qos = put.qos;
      octets = omega arith;
    })

-- a Context of no elements
pub holds_none : (raws : List RawIe) → HoldsUpTo (spanned (take 0 raws)) (context_with [])
holds_none raws = record { ebi = tt; cause = tt; tft = tt; fteids = tt; qos = tt; octets = omega arith }

-- a Context of elements that stand in octets that a length field can count
pub context_valid : (octets : List ℕ) (raws : List RawIe) (i : ℕ) (c : Context) → Stand octets raws → length raws ≤ i
    → HoldsUpTo (spanned (take i raws)) c → length octets < 2 ^ 16 → IsContext c
context_valid octets raws i c stand all holds fits =
    let whole : take i raws ≡ raws = take_all i raws all in
    let len : spanned (take i raws) ≡ length octets =
    ap spanned whole ∙ omega (arith, spanned-between octets 0 (length octets) raws stand) in
    record {
      ebi = holds.ebi;
      cause = holds.cause;
      tft = holds.tft;
      fteids = holds.fteids;
      qos = holds.qos;
      len = omega (arith, holds.octets);
    }
