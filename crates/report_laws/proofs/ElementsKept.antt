-- The numbers that a session keeps of the elements of a message are in its ranges.
use Rattle.std.proofs.Common.{◌≡◌, ℕ, ◌+◌, ◌-◌, ◌%◌, ◌<◌, ◌≤◌, ◌^◌, ◌==◌, ◌||◌, length, Bool, true, false, nat_lt, nat_le, cond, List, [], ◌∷◌, Option, Some, None, refl, arith}
use Rattle.std.specs.Prelude.{IfSome, Result, Ok, Err, slice_index}
use Rattle.std.specs.List.{AllByRecursion, filter_map}
use Rattle.std.proofs.lemmas.Bool.Decides.{nat_tests}
use Rattle.bearer_state.specs.Bearer.{IsEbi}
use Rattle.bearer_state.specs.Qos.{IsQos}
use Rattle.control_steps.specs.Command.{AreRates}
use Rattle.gtpv2_ie.specs.Context.{context_with, ebi_value, first_of, qos_value}
use Rattle.gtpv2_ie.specs.Element.{Element}
use Rattle.gtpv2_ie.specs.Fields.{cause_of, ebi_of, fteid_of, octets_of, paa_of, pdn_of}
use Rattle.gtpv2_ie.specs.Fields as fields
use Rattle.gtpv2_ie.specs.Imsi.{imsi_of}
use Rattle.gtpv2_ie.specs.Kind.{kind_at, least_len, no_context, row}
use Rattle.gtpv2_ie.specs.Stand.{ies_of, value_in}
use Rattle.gtpv2_ie.specs.Value.{context_in, context_of, element_at, inner_elements, kind_value, value_at}
use Rattle.gtpv2_ie.specs.declared.context.Context.{Context}
use Rattle.gtpv2_ie.specs.declared.fault.IeBad.{IeBad}
use Rattle.gtpv2_ie.specs.declared.kind.IeKind.{IeKind}
use Rattle.gtpv2_ie.specs.declared.kind.IeKind.TheVariants as kinds
use Rattle.gtpv2_ie.specs.declared.raw.RawIe.{RawIe}
use Rattle.gtpv2_ie.specs.declared.value.IeValue.{IeValue}
use Rattle.gtpv2_ie.specs.declared.value.IeValue.TheVariants as values
use Rattle.gtpv2_msg.specs.Elements.{known_of, read_ies}
use Rattle.gtpv2_msg.specs.Header.{body_of, end_of, has_teid, header_len}
use Rattle.wire_octets.specs.Numbers.{AreOctets, be32_at, be40_at}
use Rattle.demux.specs.Message.{elements_where, message_in}
use Rattle.demux.specs.Ranges.{IsOctet}
use Rattle.demux.specs.Requests.{qos_of}
use Rattle.demux.proofs.ElementRanges.{always, cons_all, map_some, or_some, test_some, then_some}
use Rattle.demux.proofs.Small.{Small, dropped, index_small, taken}

-- an EBI that is none, or one that a bearer has
abbrev pub EbiKept : ℕ → Type 0
EbiKept ebi = (ebi == 0) ≡ false → IsEbi ebi

pub record ContextKept (context : Context) : Type 0 where
  pub ebi : IfSome context.ebi EbiKept
  pub qos : IfSome context.qos (λ qos. IsQos (qos_of qos))

abbrev pub ValueKept : IeValue → Type 0
ValueKept (values.Ambr up down) = AreRates up down
ValueKept (values.Ebi ebi) = EbiKept ebi
ValueKept (values.Qos qos) = IsQos (qos_of qos)
ValueKept (values.Context context) = ContextKept context
ValueKept value = Unit {0}

abbrev pub ElementKept : Element → Type 0
ElementKept ie = ValueKept ie.value

-- numbers of octets
be32_fits : (octets : List ℕ) (at : ℕ) → AreOctets octets → be32_at octets at < 2 ^ 32
be32_fits octets at are = omega (arith, are at, are (at + 1), are (at + 1 + 1), are (at + 1 + 1 + 1))

be40_fits : (octets : List ℕ) (at : ℕ) → AreOctets octets → be40_at octets at < 2 ^ 40
be40_fits octets at are =
    omega (arith, are at, are (at + 1), are (at + 1 + 1), are (at + 1 + 1 + 1), are (at + 1 + 1 + 1 + 1))

rates_kept : (octets : List ℕ) → AreOctets octets → AreRates (be32_at octets 0) (be32_at octets 4)
rates_kept octets are = record { up_fits = be32_fits octets 0 are; down_fits = be32_fits octets 4 are }

qos_kept : (octets : List ℕ) → AreOctets octets → IsQos (qos_of (fields.qos_of octets))
qos_kept octets are = record {
  arp = record { bit_8 = omega arith; bit_2 = omega arith };
  qci = omega (arith, are 1);
  mbr_up = be40_fits octets 2 are;
  mbr_down = be40_fits octets 7 are;
  gbr_up = be40_fits octets 12 are;
  gbr_down = be40_fits octets 17 are;
}

ebi_test : (ebi : ℕ) (passes : Bool) → ebi < 16 → (ebi == 0 || nat_le 5 ebi) ≡ passes
    → IfSome (cond passes (Some ebi) None) EbiKept
ebi_test ebi true low passes = λ some.
    let least : 5 ≤ ebi = grind (arith, nat_tests, passes, some) in
    record { least = least; most = omega (arith, low) }
ebi_test ebi false low passes = tt

ebi_kept : (octets : List ℕ) → IfSome (ebi_of octets) EbiKept
ebi_kept octets =
    let ebi : ℕ = slice_index octets 0 % 16 in ebi_test ebi (ebi == 0 || nat_le 5 ebi) (omega arith) refl

-- the value of a kind
row_kept : (context : List ℕ → Option Context)
    → ((octets : List ℕ) → Small octets → IfSome (context octets) ContextKept)
    → (kind : IeKind) (octets : List ℕ) → Small octets → IfSome ((row context kind).value octets) ValueKept
row_kept context inner kinds.Imsi octets small =
    map_some (λ _. Unit {0}) ValueKept values.Imsi (imsi_of octets) (λ x is. tt) (always (imsi_of octets))
row_kept context inner kinds.Cause octets small =
    map_some (λ _. Unit {0}) ValueKept values.Cause (cause_of octets) (λ x is. tt) (always (cause_of octets))
row_kept context inner kinds.Recovery octets small = tt
row_kept context inner kinds.Apn octets small =
    map_some (λ _. Unit {0}) ValueKept values.Apn (octets_of 100 octets) (λ x is. tt) (always (octets_of 100 octets))
row_kept context inner kinds.Ambr octets small = rates_kept octets (index_small octets small)
row_kept context inner kinds.Ebi octets small =
    map_some EbiKept ValueKept values.Ebi (ebi_of octets) (λ x is. is) (ebi_kept octets)
row_kept context inner kinds.Paa octets small =
    map_some (λ _. Unit {0}) ValueKept values.Paa (paa_of octets) (λ x is. tt) (always (paa_of octets))
row_kept context inner kinds.Qos octets small = qos_kept octets (index_small octets small)
row_kept context inner kinds.Rat octets small = tt
row_kept context inner kinds.Tft octets small =
    map_some (λ _. Unit {0}) ValueKept values.Tft (octets_of 1000 octets) (λ x is. tt) (always (octets_of 1000 octets))
row_kept context inner kinds.Fteid octets small =
    map_some (λ _. Unit {0}) ValueKept values.Fteid (fteid_of octets) (λ x is. tt) (always (fteid_of octets))
row_kept context inner kinds.Context octets small =
    map_some ContextKept ValueKept values.Context (context octets) (λ x is. is) (inner octets small)
row_kept context inner kinds.Pdn octets small =
    map_some (λ _. Unit {0}) ValueKept values.Pdn (pdn_of octets) (λ x is. tt) (always (pdn_of octets))

-- the element at a place
element_kept : (context : List ℕ → Option Context)
    → ((octets : List ℕ) → Small octets → IfSome (context octets) ContextKept)
    → (octets : List ℕ) (raw : RawIe) → Small octets → IfSome (element_at context octets raw) ElementKept
element_kept context inner octets raw small =
    let value : List ℕ = value_in octets raw in
    let small_value : Small value = taken IsOctet (raw.to - raw.from) _ (dropped IsOctet raw.from octets small) in
    map_some ValueKept ElementKept (λ x. record { instance = raw.instance; value = x }) (value_at context raw.kind value)
    (λ x is. is)
    (then_some (λ _. Unit {0}) ValueKept (λ kind. kind_value context kind value) (kind_at raw.kind)
    (λ kind known. test_some ValueKept (nat_lt (length value) (least_len kind)) None ((row context kind).value value) tt
    (row_kept context inner kind value small_value)) (always (kind_at raw.kind)))

each_kept : (context : List ℕ → Option Context)
    → ((octets : List ℕ) → Small octets → IfSome (context octets) ContextKept)
    → (octets : List ℕ) (raws : List RawIe) → Small octets
    → AllByRecursion ElementKept (filter_map (element_at context octets) raws)
each_kept context inner octets [] small = tt
each_kept context inner octets (raw ∷ raws) small =
    cons_all ElementKept (element_at context octets raw) (filter_map (element_at context octets) raws)
    (element_kept context inner octets raw small) (each_kept context inner octets raws small)

-- the parts of a Context
first_kept : {X : Type 0} (P : X → Type 0) (part : Element → Option X)
    → ((ie : Element) → ElementKept ie → IfSome (part ie) P) → (ies : List Element) → AllByRecursion ElementKept ies
    → IfSome (first_of part ies) P
first_kept P part each [] all = tt
first_kept P part each (ie ∷ ies) all =
    or_some P (part ie) (first_of part ies) (each ie all.0) (first_kept P part each ies all.1)

ebi_part : (value : IeValue) → ValueKept value → IfSome (ebi_value value) EbiKept
ebi_part (values.Ebi ebi) is = is
ebi_part value is = tt

qos_part : (value : IeValue) → ValueKept value → IfSome (qos_value value) (λ qos. IsQos (qos_of qos))
qos_part (values.Qos qos) is = is
qos_part value is = tt

context_kept : (ies : List Element) → AllByRecursion ElementKept ies → ContextKept (context_with ies)
context_kept ies all = record {
  ebi = first_kept EbiKept (λ ie. ebi_value ie.value) (λ ie is. ebi_part ie.value is) ies all;
  qos = first_kept (λ qos. IsQos (qos_of qos)) (λ ie. qos_value ie.value) (λ ie is. qos_part ie.value is) ies all;
}

inner_kept : (octets : List ℕ) (read : Result (List RawIe) IeBad) → Small octets
    → IfSome (context_in octets read) ContextKept
inner_kept octets (Ok raws) small =
    context_kept (inner_elements octets raws) (each_kept no_context (λ octets small. tt) octets raws small)
inner_kept octets (Err bad) small = tt

any_context : (octets : List ℕ) → Small octets → IfSome (context_of octets) ContextKept
any_context octets small = inner_kept octets (ies_of octets) small

-- the elements of a message
known_kept : (octets : List ℕ) (raws : List RawIe) → Small octets
    → AllByRecursion ElementKept (known_of (read_ies octets raws))
known_kept octets [] small = tt
known_kept octets (raw ∷ raws) small =
    cons_all ElementKept (element_at context_of octets raw) (known_of (read_ies octets raws))
    (element_kept context_of any_context octets raw small) (known_kept octets raws small)

elements_kept : (octets : List ℕ) (read : Result (List RawIe) IeBad) → Small octets
    → AllByRecursion ElementKept (elements_where octets read)
elements_kept octets (Ok raws) small = known_kept octets raws small
elements_kept octets (Err bad) small = tt

pub message_kept : (octets : List ℕ) → Small octets → AllByRecursion ElementKept (message_in octets).ies
unfolding message_in
message_kept octets small =
    let from : ℕ = header_len (has_teid octets) in
    let body : Small (body_of octets) = taken IsOctet (end_of octets - from) _ (dropped IsOctet from octets small) in
    elements_kept (body_of octets) (ies_of (body_of octets)) body
