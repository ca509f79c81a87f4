-- The value that octets spell at a type octet.
use Rattle.std.specs.Prelude.{ℕ, List, Option, Some, None, Result, Ok, Err, length, if◌then◌else◌, nat_lt}
use Rattle.std.specs.List.{filter_map}
use Rattle.std.specs.Option.{option_map, option_and_then}
use Rattle.gtpv2_ie.specs.declared.context.Context.{Context}
use Rattle.gtpv2_ie.specs.declared.fault.IeBad.{IeBad}
use Rattle.gtpv2_ie.specs.declared.kind.IeKind.{IeKind}
use Rattle.gtpv2_ie.specs.declared.raw.RawIe.{RawIe}
use Rattle.gtpv2_ie.specs.declared.value.IeValue.{IeValue}
use Rattle.gtpv2_ie.specs.Element.{Element}
use Rattle.gtpv2_ie.specs.Kind.{row, no_context, least_len, kind_at}
use Rattle.gtpv2_ie.specs.Context.{context_with}
use Rattle.gtpv2_ie.specs.Stand.{value_in, ies_of}

-- the value of a kind, where `context` says which Context octets spell
abbrev pub kind_value : (List ℕ → Option Context) → IeKind → List ℕ → Option IeValue
kind_value context kind octets =
    if nat_lt (length octets) (least_len kind) then None else (row context kind).value octets

abbrev pub value_at : (List ℕ → Option Context) → ℕ → List ℕ → Option IeValue
value_at context octet octets = option_and_then (λ kind. kind_value context kind octets) (kind_at octet)

-- the element that stands at a place, where its kind is read and its value is inside its grammar
abbrev pub element_at : (List ℕ → Option Context) → List ℕ → RawIe → Option Element
element_at context octets ie =
    option_map (λ value. record { instance = ie.instance; value = value })
    (value_at context ie.kind (value_in octets ie))

-- the elements in a Context that are inside their grammar; a Context isn't one of them
abbrev pub inner_elements : List ℕ → List RawIe → List Element
inner_elements octets ies = filter_map (element_at no_context octets) ies

abbrev pub context_in : List ℕ → Result (List RawIe) IeBad → Option Context
context_in octets (Ok ies) = Some (context_with (inner_elements octets ies))
context_in octets (Err _) = None

-- the Context that octets spell: they are elements, whatever these are
abbrev pub context_of : List ℕ → Option Context
context_of octets = context_in octets (ies_of octets)

-- the value that octets spell at a type octet
abbrev pub value_of : ℕ → List ℕ → Option IeValue
value_of octet octets = value_at context_of octet octets

-- the elements of octets that are of a known kind and inside their grammar, in their order
abbrev pub known_elements : List ℕ → List RawIe → List Element
known_elements octets ies = filter_map (element_at context_of octets) ies
