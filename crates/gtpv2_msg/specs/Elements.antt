-- The elements that stand in the octets behind a header, as the table and the reader see them.
use Rattle.std.specs.Prelude.{ℕ, Bool, ◌&&◌, List, map, Option, Some, None, Result, Ok, Err, if◌then◌else◌, ◌==◌}
use Rattle.std.specs.List.{filter_map}
use Rattle.gtpv2_ie.specs.declared.fault.IeBad.{IeBad}
use Rattle.gtpv2_ie.specs.declared.kind.IeKind.TheVariants as kinds
use Rattle.gtpv2_ie.specs.declared.raw.RawIe.{RawIe}
use Rattle.gtpv2_ie.specs.Element.{Element}
use Rattle.gtpv2_ie.specs.Kind.{type_octet}
use Rattle.gtpv2_ie.specs.Stand.{ies_of, value_in}
use Rattle.gtpv2_ie.specs.Value.{element_at, context_of}
use Rattle.gtpv2_msg.specs.declared.element.ReadIe.{ReadIe}

-- the element at a place
abbrev pub read_ie : List ℕ → RawIe → ReadIe
read_ie octets raw = record { kind = raw.kind; instance = raw.instance; element = element_at context_of octets raw }

abbrev pub read_ies : List ℕ → List RawIe → List ReadIe
read_ies octets raws = map (read_ie octets) raws

-- the elements of a Context's octets, where these read
abbrev pub elements_in : List ℕ → Result (List RawIe) IeBad → Option (List ReadIe)
elements_in octets (Ok raws) = Some (read_ies octets raws)
elements_in octets (Err bad) = None

abbrev pub elements_of : List ℕ → Option (List ReadIe)
elements_of octets = elements_in octets (ies_of octets)

-- a Context of instance 0
abbrev pub is_context : RawIe → Bool
is_context raw = raw.kind == type_octet kinds.Context && raw.instance == 0

abbrev pub context_at : List ℕ → RawIe → Option (Option (List ReadIe))
context_at octets raw = if is_context raw then Some (elements_of (value_in octets raw)) else None

-- the Contexts of instance 0, in their order
abbrev pub contexts_in : List ℕ → List RawIe → List (Option (List ReadIe))
contexts_in octets raws = filter_map (context_at octets) raws

-- the elements of the thirteen kinds that are inside their grammar, in their order
abbrev pub known_of : List ReadIe → List Element
known_of ies = filter_map (λ (ie : ReadIe). ie.element) ies
