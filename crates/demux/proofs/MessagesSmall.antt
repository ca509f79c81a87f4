-- The octets of what the gateway writes to an MME.
use Rattle.std.proofs.Common.{ℕ, ◌+◌, ◌<◌, Option, None, Some, IfSome, List, [], ◌∷◌, ◌++◌, length, map, arith}
use Rattle.std.specs.List.{AllByRecursion}
use Rattle.gtpv2_ie.specs.Element.{Element}
use Rattle.gtpv2_ie.specs.Kind.{type_octet}
use Rattle.gtpv2_ie.specs.Spelling as ie
use Rattle.gtpv2_ie.specs.declared.cause.CauseIe.{CauseIe}
use Rattle.gtpv2_ie.specs.declared.context.Context.{Context}
use Rattle.gtpv2_ie.specs.declared.fteid.Fteid.{Fteid}
use Rattle.gtpv2_ie.specs.declared.qos.QosIe.{QosIe}
use Rattle.gtpv2_ie.specs.declared.value.IeValue.{IeValue}
use Rattle.gtpv2_ie.specs.declared.value.IeValue.TheVariants as values
use Rattle.gtpv2_msg.specs.Message.{Message}
use Rattle.gtpv2_msg.specs.Spelling.{header_octets, spelling}
use Rattle.wire_octets.specs.Numbers.{be16_octets, be24_octets, be32_octets, be40_octets}
use Rattle.demux.specs.Ranges.{IsOctet}
use Rattle.demux.proofs.Small.{Small, be16_small, be24_small, be32_small, be40_small, both, flat_small}

-- the parts of an element that one octet holds
abbrev pub CauseIn : CauseIe → Type 0
CauseIn cause = IsOctet cause.cause × IfSome cause.offending (λ of. IsOctet of.0 × IsOctet of.1)

abbrev pub FteidIn : Fteid → Type 0
FteidIn fteid = fteid.interface < 64

abbrev pub QosIn : QosIe → Type 0
QosIn qos = IsOctet qos.arp × IsOctet qos.qci

pub record ContextIn (context : Context) : Type 0 where
  pub ebi : IfSome context.ebi IsOctet
  pub cause : IfSome context.cause CauseIn
  pub tft : IfSome context.tft Small
  pub fteids : AllByRecursion (λ (fteid : ℕ × Fteid). IsOctet fteid.0 × FteidIn fteid.1) context.fteids
  pub qos : IfSome context.qos QosIn

abbrev pub ValueIn : IeValue → Type 0
ValueIn (values.Imsi digits) = ⊥
ValueIn (values.Cause cause) = CauseIn cause
ValueIn (values.Recovery counter) = IsOctet counter
ValueIn (values.Apn octets) = Small octets
ValueIn (values.Ambr up down) = Unit {0}
ValueIn (values.Ebi ebi) = IsOctet ebi
ValueIn (values.Paa addr) = Unit {0}
ValueIn (values.Qos qos) = QosIn qos
ValueIn (values.Rat rat) = IsOctet rat
ValueIn (values.Tft octets) = Small octets
ValueIn (values.Fteid fteid) = FteidIn fteid
ValueIn (values.Context context) = ContextIn context
ValueIn (values.Pdn pdn) = IsOctet pdn

abbrev pub ElementIn : Element → Type 0
ElementIn now = IsOctet now.instance × ValueIn now.value

cause_small : (cause : CauseIe) → CauseIn cause → Small (ie.cause_octets cause)
cause_small cause is = (is.0, (omega arith, by_element cause.offending is.1))
  where
    by_element : (offending : Option (ℕ × ℕ)) → IfSome offending (λ of. IsOctet of.0 × IsOctet of.1)
        → Small (ie.offending_octets offending)
    by_element None is = tt
    by_element (Some offending) is = (is.0, (omega arith, (omega arith, (is.1, tt))))

fteid_small : (fteid : Fteid) → FteidIn fteid → Small (ie.fteid_octets fteid)
fteid_small fteid is = (
  omega (arith, is),
  both (be32_octets fteid.teid) (be32_octets fteid.addr) (be32_small fteid.teid) (be32_small fteid.addr),
)

qos_small : (qos : QosIe) → QosIn qos → Small (ie.qos_octets qos)
qos_small qos is = (
  is.0,
  (
    is.1,
    both (be40_octets qos.mbr_up)
        (be40_octets qos.mbr_down ++ be40_octets qos.gbr_up ++ be40_octets qos.gbr_down) (be40_small qos.mbr_up)
        (both (be40_octets qos.mbr_down) (be40_octets qos.gbr_up ++ be40_octets qos.gbr_down)
        (be40_small qos.mbr_down)
        (both (be40_octets qos.gbr_up) (be40_octets qos.gbr_down) (be40_small qos.gbr_up)
        (be40_small qos.gbr_down))),
  ),
)

-- values, where a Context has these octets
plain_small : (context : Context → List ℕ) → ((c : Context) → ContextIn c → Small (context c)) → (value : IeValue)
    → ValueIn value → Small (ie.plain_octets context value)
plain_small context inner (values.Imsi digits) is = absurd is
plain_small context inner (values.Cause cause) is = cause_small cause is
plain_small context inner (values.Recovery counter) is = (is, tt)
plain_small context inner (values.Apn octets) is = is
plain_small context inner (values.Ambr up down) is =
    both (be32_octets up) (be32_octets down) (be32_small up) (be32_small down)
plain_small context inner (values.Ebi ebi) is = (is, tt)
plain_small context inner (values.Paa addr) is = (omega arith, be32_small addr)
plain_small context inner (values.Qos qos) is = qos_small qos is
plain_small context inner (values.Rat rat) is = (is, tt)
plain_small context inner (values.Tft octets) is = is
plain_small context inner (values.Fteid fteid) is = fteid_small fteid is
plain_small context inner (values.Context c) is = inner c is
plain_small context inner (values.Pdn pdn) is = (is, tt)

kind_small : (value : IeValue) → IsOctet (type_octet (ie.kind_of value))
kind_small (values.Imsi digits) = omega arith
kind_small (values.Cause cause) = omega arith
kind_small (values.Recovery counter) = omega arith
kind_small (values.Apn octets) = omega arith
kind_small (values.Ambr up down) = omega arith
kind_small (values.Ebi ebi) = omega arith
kind_small (values.Paa addr) = omega arith
kind_small (values.Qos qos) = omega arith
kind_small (values.Rat rat) = omega arith
kind_small (values.Tft octets) = omega arith
kind_small (values.Fteid fteid) = omega arith
kind_small (values.Context c) = omega arith
kind_small (values.Pdn pdn) = omega arith

element_small : (context : Context → List ℕ) → ((c : Context) → ContextIn c → Small (context c)) → (now : Element)
    → ElementIn now → Small (ie.element_octets context now)
element_small context inner now is =
    let value : List ℕ = ie.plain_octets context now.value in (
      kind_small now.value,
      both (be16_octets (length value) ++ now.instance ∷ []) value
          (both (be16_octets (length value)) (now.instance ∷ []) (be16_small (length value)) (is.0, tt))
          (plain_small context inner now.value is.1),
    )

if_in : {X : Type 0} (P : X → Type 0) (value : X → IeValue) → ((x : X) → P x → ValueIn (value x)) → (x : Option X)
    → IfSome x P → AllByRecursion ElementIn (ie.if_some value x)
if_in P value each None is = tt
if_in P value each (Some x) is = ((omega arith, each x is), tt)

fteids_in : (fteids : List (ℕ × Fteid))
    → AllByRecursion (λ (fteid : ℕ × Fteid). IsOctet fteid.0 × FteidIn fteid.1) fteids
    → AllByRecursion ElementIn (map ie.fteid_element fteids)
fteids_in [] each = tt
fteids_in (fteid ∷ fteids) each = (each.0, fteids_in fteids each.1)

all_in : (xs ys : List Element) → AllByRecursion ElementIn xs → AllByRecursion ElementIn ys
    → AllByRecursion ElementIn (xs ++ ys)
all_in [] ys first second = second
all_in (x ∷ xs) ys first second = (first.0, all_in xs ys first.1 second)

context_small : (c : Context) → ContextIn c → Small (ie.context_octets c)
context_small c is =
    let ebi : List Element = ie.if_some values.Ebi c.ebi in
    let cause : List Element = ie.if_some values.Cause c.cause in
    let tft : List Element = ie.if_some values.Tft c.tft in
    let fteids : List Element = map ie.fteid_element c.fteids in
    let qos : List Element = ie.if_some values.Qos c.qos in
    flat_small ElementIn (ie.element_octets ie.empty_context)
    (λ now own. element_small ie.empty_context (λ none has. tt) now own) (ie.context_elements c)
    (all_in (ebi ++ cause ++ tft ++ fteids) qos
    (all_in (ebi ++ cause ++ tft) fteids
    (all_in (ebi ++ cause) tft
    (all_in ebi cause (if_in IsOctet values.Ebi (λ x own. own) c.ebi is.ebi)
    (if_in CauseIn values.Cause (λ x own. own) c.cause is.cause))
    (if_in Small values.Tft (λ x own. own) c.tft is.tft))
    (fteids_in c.fteids is.fteids))
    (if_in QosIn values.Qos (λ x own. own) c.qos is.qos))

pub elements_small : (ies : List Element) → AllByRecursion ElementIn ies → Small (ie.spellings ies)
elements_small ies each =
    flat_small ElementIn ie.spelling (λ now own. element_small ie.context_octets context_small now own) ies each

header_small : (kind : ℕ) (teid : Option ℕ) (seq len : ℕ) → IsOctet kind → Small (header_octets kind teid seq len)
header_small kind None seq len is =
    let rest : Small (be24_octets seq ++ 0 ∷ []) = both (be24_octets seq) (0 ∷ []) (be24_small seq) (omega arith, tt) in
    (omega arith, (is, both (be16_octets (4 + len)) (be24_octets seq ++ 0 ∷ []) (be16_small (4 + len)) rest))
header_small kind (Some teid) seq len is =
    let rest : Small (be24_octets seq ++ 0 ∷ []) = both (be24_octets seq) (0 ∷ []) (be24_small seq) (omega arith, tt) in (
      omega arith,
      (
        is,
        both (be16_octets (8 + len)) (be32_octets teid ++ be24_octets seq ++ 0 ∷ []) (be16_small (8 + len))
            (both (be32_octets teid) (be24_octets seq ++ 0 ∷ []) (be32_small teid) rest),
      ),
    )

pub message_small : (message : Message) → IsOctet message.kind → AllByRecursion ElementIn message.ies
    → Small (spelling message)
message_small message kind each =
    both (header_octets message.kind message.teid message.seq (length (ie.spellings message.ies)))
    (ie.spellings message.ies)
    (header_small message.kind message.teid message.seq (length (ie.spellings message.ies)) kind)
    (elements_small message.ies each)
