-- The first of the required elements that is missing or incorrect.
use Rattle.std.specs.Prelude.{ℕ, Bool, true, false, ◌&&◌, ◌||◌, List, [], ◌∷◌, Option, Some, None, if◌then◌else◌, ◌==◌}
use Rattle.std.specs.List.{find}
use Rattle.std.specs.Option.{is_some, option_and_then, option_or}
use Rattle.gtpv2_ie.specs.declared.kind.IeKind.{IeKind}
use Rattle.gtpv2_ie.specs.declared.kind.IeKind.TheVariants as kinds
use Rattle.gtpv2_ie.specs.Context.{ebi_value, context_with}
use Rattle.gtpv2_ie.specs.Element.{Element}
use Rattle.gtpv2_ie.specs.Kind.{type_octet}
use Rattle.gtpv2_msg.specs.declared.element.ReadIe.{ReadIe}
use Rattle.gtpv2_msg.specs.declared.fault.CBad.{CBad}
use Rattle.gtpv2_msg.specs.declared.fault.CBad.TheVariants.{Missing, Incorrect}
use Rattle.gtpv2_msg.specs.declared.table.Part.{Part}
use Rattle.gtpv2_msg.specs.declared.table.Part.TheVariants as parts
use Rattle.gtpv2_msg.specs.Elements.{known_of}
use Rattle.gtpv2_msg.specs.Required.{RequiredIes}

-- an element of a type and instance 0
abbrev pub is_first : ℕ → ReadIe → Bool
is_first octet ie = ie.kind == octet && ie.instance == 0

-- what is wrong with the first element of a kind and instance 0: that it is an element at all says
-- that it is inside its grammar
abbrev pub element_fault : IeKind → Option ReadIe → Option CBad
element_fault kind None = Some (Missing (type_octet kind) 0)
element_fault kind (Some ie) = if is_some ie.element then None else Some (Incorrect (type_octet kind) 0)

abbrev pub kind_fault : List ReadIe → IeKind → Option CBad
kind_fault ies kind = element_fault kind (find (is_first (type_octet kind)) ies)

-- the EBI that an element is
abbrev pub ebi_in : ReadIe → Option ℕ
ebi_in ie = option_and_then (λ (element : Element). ebi_value element.value) ie.element

-- the first EBI of instance 0
abbrev pub first_ebi : List ReadIe → Option ℕ
first_ebi ies = option_and_then ebi_in (find (is_first (type_octet kinds.Ebi)) ies)

-- the EBI that a Context of these elements holds, which may be of another instance
abbrev pub held_ebi : List ReadIe → Option ℕ
held_ebi ies = (context_with (known_of ies)).ebi

abbrev pub is_zero : Option ℕ → Bool
is_zero None = false
is_zero (Some ebi) = ebi == 0

-- an EBI 0, where another is asked for
abbrev pub zero_fault : List ReadIe → Option CBad
zero_fault ies =
    if is_zero (first_ebi ies) || is_zero (held_ebi ies) then Some (Incorrect (type_octet kinds.Ebi) 0) else None

-- what is wrong with a part of a Context
abbrev pub part_fault : List ReadIe → Part → Option CBad
part_fault ies (parts.Ie kind) = kind_fault ies kind
part_fault ies parts.AssignedEbi = option_or (kind_fault ies kinds.Ebi) (zero_fault ies)

-- the first fault of kinds, and of parts, in their order
abbrev pub kinds_fault : List ReadIe → List IeKind → Option CBad
kinds_fault ies [] = None
kinds_fault ies (kind ∷ kinds) = option_or (kind_fault ies kind) (kinds_fault ies kinds)

abbrev pub parts_fault : List ReadIe → List Part → Option CBad
parts_fault ies [] = None
parts_fault ies (part ∷ parts) = option_or (part_fault ies part) (parts_fault ies parts)

-- the fault of a Context, which has no elements where its octets don't read
abbrev pub context_fault : List Part → Option (List ReadIe) → Option CBad
context_fault inside None = Some (Incorrect (type_octet kinds.Context) 0)
context_fault inside (Some ies) = parts_fault ies inside

-- the first fault of Contexts, in their order
abbrev pub inside_fault : List Part → List (Option (List ReadIe)) → Option CBad
inside_fault inside [] = None
inside_fault inside (context ∷ contexts) = option_or (context_fault inside context) (inside_fault inside contexts)

abbrev pub contexts_fault : Bool → List Part → List (Option (List ReadIe)) → Option CBad
contexts_fault true inside [] = Some (Missing (type_octet kinds.Context) 0)
contexts_fault must inside contexts = inside_fault inside contexts

-- The one reading of the table: the first fault of a message's elements, and of its Contexts of
-- instance 0, each by its own elements, in the order of a row.
abbrev pub row_fault : RequiredIes → List ReadIe → List (Option (List ReadIe)) → Option CBad
row_fault row ies contexts =
    option_or (kinds_fault ies row.before)
    (option_or (contexts_fault row.must row.inside contexts) (kinds_fault ies row.after))
