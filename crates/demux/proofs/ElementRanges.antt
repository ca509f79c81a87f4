-- The numbers that a command takes of the elements of a message: those of one octet are below 256, and an address is
-- below 2^32.
use Rattle.std.proofs.Common.{ℕ, ◌+◌, ◌-◌, ◌%◌, ◌<◌, length, ◌^◌, ◌==◌, ◌||◌, Bool, true, false, nat_lt, nat_le, cond, List, [], ◌∷◌, Option, Some, None, arith}
use Rattle.std.specs.Prelude.{IfSome, Result, Ok, Err, slice_index}
use Rattle.std.specs.List.{AllByRecursion, cons_option, filter_map, find}
use Rattle.std.specs.Option.{option_and_then, option_map, option_or}
use Rattle.gtpv2_ie.specs.Context.{context_with, ebi_value, fteid_value, first_of, qos_value}
use Rattle.gtpv2_ie.specs.Element.{Element}
use Rattle.gtpv2_ie.specs.Fields.{arp_bits, cause_of, ebi_of, fteid_of, octets_of, paa_of, pdn_of}
use Rattle.gtpv2_ie.specs.Imsi.{imsi_of}
use Rattle.gtpv2_ie.specs.Kind.{kind_at, least_len, no_context, row}
use Rattle.gtpv2_ie.specs.Stand.{ies_of, value_in}
use Rattle.gtpv2_ie.specs.Value.{context_in, context_of, element_at, inner_elements, kind_value, value_at}
use Rattle.gtpv2_ie.specs.declared.context.Context.{Context}
use Rattle.gtpv2_ie.specs.declared.fault.IeBad.{IeBad}
use Rattle.gtpv2_ie.specs.declared.fteid.Fteid.{Fteid}
use Rattle.gtpv2_ie.specs.declared.kind.IeKind.{IeKind}
use Rattle.gtpv2_ie.specs.declared.kind.IeKind.TheVariants as kinds
use Rattle.gtpv2_ie.specs.declared.raw.RawIe.{RawIe}
use Rattle.gtpv2_ie.specs.declared.value.IeValue.{IeValue}
use Rattle.gtpv2_ie.specs.declared.value.IeValue.TheVariants as values
use Rattle.gtpv2_msg.specs.Elements.{known_of, read_ies}
use Rattle.gtpv2_msg.specs.Header.{body_of, end_of, has_teid, header_len}
use Rattle.wire_octets.specs.Numbers.{AreOctets, be32_at}
use Rattle.demux.specs.Message.{elements_where, message_in}
use Rattle.demux.specs.Ranges.{IsOctet}
use Rattle.demux.proofs.MessagesSmall.{QosIn}
use Rattle.demux.proofs.Small.{Small, dropped, index_small, taken}

-- what holds of a value that may be there
pub always : {X : Type 0} (x : Option X) → IfSome x (λ _. Unit {0})
always None = tt
always (Some x) = tt

pub map_some : {X Y : Type 0} (P : X → Type 0) (Q : Y → Type 0) (f : X → Y) (x : Option X) → ((x : X) → P x → Q (f x))
    → IfSome x P → IfSome (option_map f x) Q
map_some P Q f None each is = tt
map_some P Q f (Some x) each is = each x is

pub then_some : {X Y : Type 0} (P : X → Type 0) (Q : Y → Type 0) (f : X → Option Y) (x : Option X)
    → ((x : X) → P x → IfSome (f x) Q) → IfSome x P → IfSome (option_and_then f x) Q
then_some P Q f None each is = tt
then_some P Q f (Some x) each is = each x is

pub test_some : {X : Type 0} (P : X → Type 0) (test : Bool) (one other : Option X) → IfSome one P → IfSome other P
    → IfSome (cond test one other) P
test_some P true one other first second = first
test_some P false one other first second = second

pub or_some : {X : Type 0} (P : X → Type 0) (one other : Option X) → IfSome one P → IfSome other P
    → IfSome (option_or one other) P
or_some P None other first second = second
or_some P (Some x) other first second = first

pub cons_all : {X : Type 0} (P : X → Type 0) (one : Option X) (rest : List X) → IfSome one P → AllByRecursion P rest
    → AllByRecursion P (cons_option one rest)
cons_all P None rest first all = all
cons_all P (Some x) rest first all = (first, all)

pub find_some : {X : Type 0} (P : X → Type 0) (test : X → Bool) (xs : List X) → AllByRecursion P xs
    → IfSome (find test xs) P
find_some P test [] all = tt
find_some P test (x ∷ xs) all = test_some P (test x) (Some x) (find test xs) all.0 (find_some P test xs all.1)

-- what a command takes of a Context, and of an element
abbrev pub HasFteidAddress : ℕ × Fteid → Type 0
HasFteidAddress fteid = fteid.1.addr < 2 ^ 32

pub record ContextFits (context : Context) : Type 0 where
  pub ebi : IfSome context.ebi IsOctet
  pub fteids : AllByRecursion HasFteidAddress context.fteids
  pub qos : IfSome context.qos QosIn

abbrev pub ValueFits : IeValue → Type 0
ValueFits (values.Ebi ebi) = IsOctet ebi
ValueFits (values.Qos qos) = QosIn qos
ValueFits (values.Fteid fteid) = fteid.addr < 2 ^ 32
ValueFits (values.Context context) = ContextFits context
ValueFits value = Unit {0}

abbrev pub ElementFits : Element → Type 0
ElementFits ie = ValueFits ie.value

-- numbers of octets
be32_fits : (octets : List ℕ) (at : ℕ) → AreOctets octets → be32_at octets at < 2 ^ 32
be32_fits octets at are = omega (arith, are at, are (at + 1), are (at + 1 + 1), are (at + 1 + 1 + 1))

arp_fits : (octet : ℕ) → IsOctet (arp_bits octet)
arp_fits octet = omega arith

ebi_fits : (octets : List ℕ) → IfSome (ebi_of octets) IsOctet
ebi_fits octets =
    let ebi : ℕ = slice_index octets 0 % 16 in
    test_some IsOctet (ebi == 0 || nat_le 5 ebi) (Some ebi) None (omega arith) tt

fteid_fits : (octets : List ℕ) → AreOctets octets → IfSome (fteid_of octets) (λ (fteid : Fteid). fteid.addr < 2 ^ 32)
fteid_fits octets are =
    let first : ℕ = slice_index octets 0 in
    test_some (λ (fteid : Fteid). fteid.addr < 2 ^ 32) (nat_lt first 128) None
    (Some (record { interface = first % 64; teid = be32_at octets 1; addr = be32_at octets 5 })) tt
    (be32_fits octets 5 are)

-- the value of a kind
row_fits : (context : List ℕ → Option Context)
    → ((octets : List ℕ) → Small octets → IfSome (context octets) ContextFits)
    → (kind : IeKind) (octets : List ℕ) → Small octets → IfSome ((row context kind).value octets) ValueFits
row_fits context inner kinds.Imsi octets small =
    map_some (λ _. Unit {0}) ValueFits values.Imsi (imsi_of octets) (λ x is. tt) (always (imsi_of octets))
row_fits context inner kinds.Cause octets small =
    map_some (λ _. Unit {0}) ValueFits values.Cause (cause_of octets) (λ x is. tt) (always (cause_of octets))
row_fits context inner kinds.Recovery octets small = tt
row_fits context inner kinds.Apn octets small =
    map_some (λ _. Unit {0}) ValueFits values.Apn (octets_of 100 octets) (λ x is. tt) (always (octets_of 100 octets))
row_fits context inner kinds.Ambr octets small = tt
row_fits context inner kinds.Ebi octets small =
    map_some IsOctet ValueFits values.Ebi (ebi_of octets) (λ x is. is) (ebi_fits octets)
row_fits context inner kinds.Paa octets small =
    map_some (λ _. Unit {0}) ValueFits values.Paa (paa_of octets) (λ x is. tt) (always (paa_of octets))
row_fits context inner kinds.Qos octets small = (arp_fits (slice_index octets 0), index_small octets small 1)
row_fits context inner kinds.Rat octets small = tt
row_fits context inner kinds.Tft octets small =
    map_some (λ _. Unit {0}) ValueFits values.Tft (octets_of 1000 octets) (λ x is. tt) (always (octets_of 1000 octets))
row_fits context inner kinds.Fteid octets small =
    map_some (λ (fteid : Fteid). fteid.addr < 2 ^ 32) ValueFits values.Fteid (fteid_of octets) (λ x is. is)
    (fteid_fits octets (index_small octets small))
row_fits context inner kinds.Context octets small =
    map_some ContextFits ValueFits values.Context (context octets) (λ x is. is) (inner octets small)
row_fits context inner kinds.Pdn octets small =
    map_some (λ _. Unit {0}) ValueFits values.Pdn (pdn_of octets) (λ x is. tt) (always (pdn_of octets))

-- the element at a place
element_fits : (context : List ℕ → Option Context)
    → ((octets : List ℕ) → Small octets → IfSome (context octets) ContextFits)
    → (octets : List ℕ) (raw : RawIe) → Small octets → IfSome (element_at context octets raw) ElementFits
element_fits context inner octets raw small =
    let value : List ℕ = value_in octets raw in
    let small_value : Small value = taken IsOctet (raw.to - raw.from) _ (dropped IsOctet raw.from octets small) in
    map_some ValueFits ElementFits (λ x. record { instance = raw.instance; value = x }) (value_at context raw.kind value)
    (λ x is. is)
    (then_some (λ _. Unit {0}) ValueFits (λ kind. kind_value context kind value) (kind_at raw.kind)
    (λ kind known. test_some ValueFits (nat_lt (length value) (least_len kind)) None ((row context kind).value value) tt
    (row_fits context inner kind value small_value)) (always (kind_at raw.kind)))

each_fits : (context : List ℕ → Option Context)
    → ((octets : List ℕ) → Small octets → IfSome (context octets) ContextFits)
    → (octets : List ℕ) (raws : List RawIe) → Small octets
    → AllByRecursion ElementFits (filter_map (element_at context octets) raws)
each_fits context inner octets [] small = tt
each_fits context inner octets (raw ∷ raws) small =
    cons_all ElementFits (element_at context octets raw) (filter_map (element_at context octets) raws)
    (element_fits context inner octets raw small) (each_fits context inner octets raws small)

-- the parts of a Context
first_fits : {X : Type 0} (P : X → Type 0) (part : Element → Option X)
    → ((ie : Element) → ElementFits ie → IfSome (part ie) P) → (ies : List Element) → AllByRecursion ElementFits ies
    → IfSome (first_of part ies) P
first_fits P part each [] all = tt
first_fits P part each (ie ∷ ies) all =
    or_some P (part ie) (first_of part ies) (each ie all.0) (first_fits P part each ies all.1)

ebi_part : (value : IeValue) → ValueFits value → IfSome (ebi_value value) IsOctet
ebi_part (values.Ebi ebi) is = is
ebi_part value is = tt

qos_part : (value : IeValue) → ValueFits value → IfSome (qos_value value) QosIn
qos_part (values.Qos qos) is = is
qos_part value is = tt

fteid_part : (instance : ℕ) (value : IeValue) → ValueFits value → IfSome (fteid_value instance value) HasFteidAddress
fteid_part instance (values.Fteid fteid) is = is
fteid_part instance value is = tt

fteid_parts : (ies : List Element) → AllByRecursion ElementFits ies
    → AllByRecursion HasFteidAddress (filter_map (λ (ie : Element). fteid_value ie.instance ie.value) ies)
fteid_parts [] all = tt
fteid_parts (ie ∷ ies) all =
    cons_all HasFteidAddress (fteid_value ie.instance ie.value)
    (filter_map (λ (ie : Element). fteid_value ie.instance ie.value) ies) (fteid_part ie.instance ie.value all.0)
    (fteid_parts ies all.1)

context_fits : (ies : List Element) → AllByRecursion ElementFits ies → ContextFits (context_with ies)
context_fits ies all = record {
  ebi = first_fits IsOctet (λ ie. ebi_value ie.value) (λ ie is. ebi_part ie.value is) ies all;
  fteids = fteid_parts ies all;
  qos = first_fits QosIn (λ ie. qos_value ie.value) (λ ie is. qos_part ie.value is) ies all;
}

inner_fits : (octets : List ℕ) (read : Result (List RawIe) IeBad) → Small octets
    → IfSome (context_in octets read) ContextFits
inner_fits octets (Ok raws) small =
    context_fits (inner_elements octets raws) (each_fits no_context (λ octets small. tt) octets raws small)
inner_fits octets (Err bad) small = tt

any_context : (octets : List ℕ) → Small octets → IfSome (context_of octets) ContextFits
any_context octets small = inner_fits octets (ies_of octets) small

-- the elements of a message
known_fits : (octets : List ℕ) (raws : List RawIe) → Small octets
    → AllByRecursion ElementFits (known_of (read_ies octets raws))
known_fits octets [] small = tt
known_fits octets (raw ∷ raws) small =
    cons_all ElementFits (element_at context_of octets raw) (known_of (read_ies octets raws))
    (element_fits context_of any_context octets raw small) (known_fits octets raws small)

elements_fit : (octets : List ℕ) (read : Result (List RawIe) IeBad) → Small octets
    → AllByRecursion ElementFits (elements_where octets read)
elements_fit octets (Ok raws) small = known_fits octets raws small
elements_fit octets (Err bad) small = tt

pub message_fits : (octets : List ℕ) → Small octets → AllByRecursion ElementFits (message_in octets).ies
unfolding message_in
message_fits octets small =
    let from : ℕ = header_len (has_teid octets) in
    let body : Small (body_of octets) = taken IsOctet (end_of octets - from) _ (dropped IsOctet from octets small) in
    elements_fit (body_of octets) (ies_of (body_of octets)) body
