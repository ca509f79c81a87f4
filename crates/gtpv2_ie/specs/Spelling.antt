-- The one text of an element.
use Rattle.std.specs.Prelude.{ℕ, ◌+◌, List, [], ◌∷◌, ◌++◌, length, map, Option, Some, None}
use Rattle.std.specs.List.{flat_map}
use Rattle.gtpv2_ie.specs.declared.cause.CauseIe.{CauseIe}
use Rattle.gtpv2_ie.specs.declared.context.Context.{Context}
use Rattle.gtpv2_ie.specs.declared.fteid.Fteid.{Fteid}
use Rattle.gtpv2_ie.specs.declared.kind.IeKind.{IeKind}
use Rattle.gtpv2_ie.specs.declared.kind.IeKind.TheVariants as kinds
use Rattle.gtpv2_ie.specs.declared.qos.QosIe.{QosIe}
use Rattle.gtpv2_ie.specs.declared.value.IeValue.{IeValue}
use Rattle.gtpv2_ie.specs.declared.value.IeValue.TheVariants as values
use Rattle.wire_octets.specs.Numbers.{be16_octets, be32_octets, be40_octets}
use Rattle.gtpv2_ie.specs.Element.{Element}
use Rattle.gtpv2_ie.specs.Imsi.{imsi_octets}
use Rattle.gtpv2_ie.specs.Kind.{type_octet}

-- type, length of the value, instance with the spare bits 0 (8.2.1)
abbrev pub ie_header : ℕ → ℕ → ℕ → List ℕ
ie_header kind instance len = kind ∷ be16_octets len ++ instance ∷ []

abbrev pub ie_octets : ℕ → ℕ → List ℕ → List ℕ
ie_octets kind instance value = ie_header kind instance (length value) ++ value

abbrev pub kind_of : IeValue → IeKind
kind_of (values.Imsi _) = kinds.Imsi
kind_of (values.Cause _) = kinds.Cause
kind_of (values.Recovery _) = kinds.Recovery
kind_of (values.Apn _) = kinds.Apn
kind_of (values.Ambr _ _) = kinds.Ambr
kind_of (values.Ebi _) = kinds.Ebi
kind_of (values.Paa _) = kinds.Paa
kind_of (values.Qos _) = kinds.Qos
kind_of (values.Rat _) = kinds.Rat
kind_of (values.Tft _) = kinds.Tft
kind_of (values.Fteid _) = kinds.Fteid
kind_of (values.Context _) = kinds.Context
kind_of (values.Pdn _) = kinds.Pdn

-- Cause (8.4), with the flags 0
abbrev pub offending_octets : Option (ℕ × ℕ) → List ℕ
offending_octets None = []
offending_octets (Some offending) = offending.0 ∷ 0 ∷ 0 ∷ offending.1 ∷ []

abbrev pub cause_octets : CauseIe → List ℕ
cause_octets cause = cause.cause ∷ 0 ∷ offending_octets cause.offending

-- F-TEID (8.22), with V4 alone
abbrev pub fteid_octets : Fteid → List ℕ
fteid_octets fteid = (128 + fteid.interface) ∷ be32_octets fteid.teid ++ be32_octets fteid.addr

-- Bearer QoS (8.15)
abbrev pub qos_octets : QosIe → List ℕ
qos_octets qos =
    qos.arp ∷ qos.qci ∷ be40_octets qos.mbr_up ++ be40_octets qos.mbr_down ++ be40_octets qos.gbr_up
    ++ be40_octets qos.gbr_down

-- the octets of a value, where `context` gives those of a Context
abbrev pub plain_octets : (Context → List ℕ) → IeValue → List ℕ
plain_octets context (values.Imsi digits) = imsi_octets digits
plain_octets context (values.Cause cause) = cause_octets cause
plain_octets context (values.Recovery counter) = counter ∷ []
plain_octets context (values.Apn octets) = octets
plain_octets context (values.Ambr up down) = be32_octets up ++ be32_octets down
plain_octets context (values.Ebi ebi) = ebi ∷ []
plain_octets context (values.Paa addr) = 1 ∷ be32_octets addr
plain_octets context (values.Qos qos) = qos_octets qos
plain_octets context (values.Rat rat) = rat ∷ []
plain_octets context (values.Tft octets) = octets
plain_octets context (values.Fteid fteid) = fteid_octets fteid
plain_octets context (values.Context c) = context c
plain_octets context (values.Pdn pdn) = pdn ∷ []

abbrev pub element_octets : (Context → List ℕ) → Element → List ℕ
element_octets context ie = ie_octets (type_octet (kind_of ie.value)) ie.instance (plain_octets context ie.value)

-- an element of instance 0 where there is a value
abbrev pub if_some : {X : Type 0} → (X → IeValue) → Option X → List Element
if_some value None = []
if_some value (Some x) = record { instance = 0; value = value x } ∷ []

abbrev pub fteid_element : ℕ × Fteid → Element
fteid_element fteid = record { instance = fteid.0; value = values.Fteid fteid.1 }

-- the elements that a Context is written as
abbrev pub context_elements : Context → List Element
context_elements context =
    if_some values.Ebi context.ebi ++ if_some values.Cause context.cause ++ if_some values.Tft context.tft
    ++ map fteid_element context.fteids ++ if_some values.Qos context.qos

abbrev pub empty_context : Context → List ℕ
empty_context _ = []

-- the text of elements in a Context; a Context isn't one of them
abbrev pub inner_spellings : List Element → List ℕ
inner_spellings ies = flat_map (element_octets empty_context) ies

abbrev pub context_octets : Context → List ℕ
context_octets context = inner_spellings (context_elements context)

-- the text of an element, and of elements one behind another
abbrev pub spelling : Element → List ℕ
spelling ie = element_octets context_octets ie

abbrev pub spellings : List Element → List ℕ
spellings ies = flat_map spelling ies
