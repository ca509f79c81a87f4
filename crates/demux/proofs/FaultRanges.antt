-- The element that a fault of a message names has a type and an instance of one octet each.
use Rattle.std.proofs.Common.{ℕ, ◌==◌, ◌||◌, Bool, true, false, nat_lt, not, List, [], ◌∷◌, length, Option, Some, None, arith}
use Rattle.std.specs.Prelude.{IfSome, Result, Ok, Err}
use Rattle.std.specs.List.{find}
use Rattle.std.specs.Option.{is_some, option_or}
use Rattle.gtpv2_ie.specs.Kind.{type_octet}
use Rattle.gtpv2_ie.specs.Stand.{ies_of}
use Rattle.gtpv2_ie.specs.declared.fault.IeBad.{IeBad}
use Rattle.gtpv2_ie.specs.declared.kind.IeKind.{IeKind}
use Rattle.gtpv2_ie.specs.declared.kind.IeKind.TheVariants as kinds
use Rattle.gtpv2_ie.specs.declared.raw.RawIe.{RawIe}
use Rattle.gtpv2_msg.specs.Elements.{contexts_in, read_ies}
use Rattle.gtpv2_msg.specs.Header.{body_of, has_piggyback, kind_of, version_of}
use Rattle.gtpv2_msg.specs.Kinds.{is_kind}
use Rattle.gtpv2_msg.specs.Refusal.{body_fault, elements_fault, first_fault, has_wrong_length, header_fault}
use Rattle.gtpv2_msg.specs.Required.{RequiredIes, required}
use Rattle.gtpv2_msg.specs.RowFault.{context_fault, contexts_fault, element_fault, first_ebi, held_ebi, inside_fault, is_first, is_zero, kind_fault, kinds_fault, part_fault, parts_fault, row_fault, zero_fault}
use Rattle.gtpv2_msg.specs.declared.element.ReadIe.{ReadIe}
use Rattle.gtpv2_msg.specs.declared.fault.CBad.{CBad}
use Rattle.gtpv2_msg.specs.declared.fault.CBad.TheVariants.{Short, Version, Piggyback, Length, Kind, Missing, Incorrect}
use Rattle.gtpv2_msg.specs.declared.table.Part.{Part}
use Rattle.gtpv2_msg.specs.declared.table.Part.TheVariants as parts
use Rattle.demux.specs.Ranges.{IsOctet}
use Rattle.demux.proofs.ElementRanges.{or_some, test_some}

abbrev pub FaultFits : CBad → Type 0
FaultFits (Missing kind instance) = IsOctet kind × IsOctet instance
FaultFits (Incorrect kind instance) = IsOctet kind × IsOctet instance
FaultFits bad = Unit {0}

type_fits : (kind : IeKind) → IsOctet (type_octet kind)
type_fits kinds.Imsi = omega arith
type_fits kinds.Cause = omega arith
type_fits kinds.Recovery = omega arith
type_fits kinds.Apn = omega arith
type_fits kinds.Ambr = omega arith
type_fits kinds.Ebi = omega arith
type_fits kinds.Paa = omega arith
type_fits kinds.Qos = omega arith
type_fits kinds.Rat = omega arith
type_fits kinds.Tft = omega arith
type_fits kinds.Fteid = omega arith
type_fits kinds.Context = omega arith
type_fits kinds.Pdn = omega arith

of_element : (kind : IeKind) (ie : Option ReadIe) → IfSome (element_fault kind ie) FaultFits
of_element kind None = (type_fits kind, omega arith)
of_element kind (Some ie) =
    test_some FaultFits (is_some ie.element) None (Some (Incorrect (type_octet kind) 0)) tt
    (type_fits kind, omega arith)

of_kind : (ies : List ReadIe) (kind : IeKind) → IfSome (kind_fault ies kind) FaultFits
of_kind ies kind = of_element kind (find (is_first (type_octet kind)) ies)

of_kinds : (ies : List ReadIe) (kinds : List IeKind) → IfSome (kinds_fault ies kinds) FaultFits
of_kinds ies [] = tt
of_kinds ies (kind ∷ kinds) =
    or_some FaultFits (kind_fault ies kind) (kinds_fault ies kinds) (of_kind ies kind) (of_kinds ies kinds)

of_part : (ies : List ReadIe) (part : Part) → IfSome (part_fault ies part) FaultFits
of_part ies (parts.Ie kind) = of_kind ies kind
of_part ies parts.AssignedEbi =
    or_some FaultFits (kind_fault ies kinds.Ebi) (zero_fault ies) (of_kind ies kinds.Ebi)
    (test_some FaultFits (is_zero (first_ebi ies) || is_zero (held_ebi ies)) (Some (Incorrect (type_octet kinds.Ebi) 0))
    None (type_fits kinds.Ebi, omega arith) tt)

of_parts : (ies : List ReadIe) (parts : List Part) → IfSome (parts_fault ies parts) FaultFits
of_parts ies [] = tt
of_parts ies (part ∷ parts) =
    or_some FaultFits (part_fault ies part) (parts_fault ies parts) (of_part ies part) (of_parts ies parts)

of_context : (inside : List Part) (ies : Option (List ReadIe)) → IfSome (context_fault inside ies) FaultFits
of_context inside None = (type_fits kinds.Context, omega arith)
of_context inside (Some ies) = of_parts ies inside

of_inside : (inside : List Part) (contexts : List (Option (List ReadIe)))
    → IfSome (inside_fault inside contexts) FaultFits
of_inside inside [] = tt
of_inside inside (context ∷ contexts) =
    or_some FaultFits (context_fault inside context) (inside_fault inside contexts) (of_context inside context)
    (of_inside inside contexts)

of_contexts : (must : Bool) (inside : List Part) (contexts : List (Option (List ReadIe)))
    → IfSome (contexts_fault must inside contexts) FaultFits
of_contexts true inside [] = (type_fits kinds.Context, omega arith)
of_contexts true inside (context ∷ contexts) = of_inside inside (context ∷ contexts)
of_contexts false inside contexts = of_inside inside contexts

of_row : (row : RequiredIes) (ies : List ReadIe) (contexts : List (Option (List ReadIe)))
    → IfSome (row_fault row ies contexts) FaultFits
of_row row ies contexts =
    let inside : Option CBad = contexts_fault row.must row.inside contexts in
    or_some FaultFits (kinds_fault ies row.before) (option_or inside (kinds_fault ies row.after))
    (of_kinds ies row.before)
    (or_some FaultFits inside (kinds_fault ies row.after) (of_contexts row.must row.inside contexts)
    (of_kinds ies row.after))

of_body : (kind : ℕ) (octets : List ℕ) (read : Result (List RawIe) IeBad)
    → IfSome (elements_fault kind octets read) FaultFits
of_body kind octets (Ok raws) = of_row (required kind) (read_ies octets raws) (contexts_in octets raws)
of_body kind octets (Err bad) = tt

of_header : (octets : List ℕ) → IfSome (header_fault octets) FaultFits
of_header octets =
    test_some FaultFits (nat_lt (length octets) 8) (Some Short) _ tt
    (test_some FaultFits (not (version_of octets == 2)) (Some Version) _ tt
    (test_some FaultFits (has_piggyback octets) (Some Piggyback) _ tt
    (test_some FaultFits (has_wrong_length octets) (Some Length) _ tt
    (test_some FaultFits (not (is_kind (kind_of octets))) (Some Kind) None tt tt))))

pub fault_fits : (octets : List ℕ) → IfSome (first_fault octets) FaultFits
fault_fits octets =
    or_some FaultFits (header_fault octets) (body_fault (kind_of octets) (body_of octets)) (of_header octets)
    (of_body (kind_of octets) (body_of octets) (ies_of (body_of octets)))
