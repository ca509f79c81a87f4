-- What stands among the elements of a message.
use Rattle.std.specs.Prelude.{ℕ, Bool, ◌&&◌, List, Option, Some, None, if◌then◌else◌, ◌==◌}
use Rattle.std.specs.List.{find, filter_map}
use Rattle.std.specs.Option.{option_map}
use Rattle.gtpv2_ie.specs.declared.context.Context.{Context}
use Rattle.gtpv2_ie.specs.declared.kind.IeKind.{IeKind}
use Rattle.gtpv2_ie.specs.declared.value.IeValue.{IeValue}
use Rattle.gtpv2_ie.specs.declared.value.IeValue.TheVariants as values
use Rattle.gtpv2_ie.specs.Element.{Element}
use Rattle.gtpv2_ie.specs.Kind.{type_octet}
use Rattle.gtpv2_ie.specs.Spelling.{kind_of}

-- an element of a kind and an instance
abbrev pub is_of : IeKind → ℕ → Element → Bool
is_of kind instance ie = type_octet (kind_of ie.value) == type_octet kind && ie.instance == instance

-- the value of the first one
abbrev pub first_value : IeKind → ℕ → List Element → Option IeValue
first_value kind instance ies = option_map (λ (ie : Element). ie.value) (find (is_of kind instance) ies)

-- the Contexts of instance 0, in their order
abbrev pub context_value : IeValue → Option Context
context_value (values.Context context) = Some context
context_value value = None

abbrev pub first_context : Element → Option Context
first_context ie = if ie.instance == 0 then context_value ie.value else None

abbrev pub contexts_of : List Element → List Context
contexts_of ies = filter_map first_context ies
