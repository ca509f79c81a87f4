-- The EBI that a Context holds is the first one among its elements.
use Rattle.std.proofs.Common.{◌≡◌, ℕ, List, ◌∷◌, Option, Some, None, refl}
use Rattle.std.specs.Option.{option_or}
use Rattle.gtpv2_ie.specs.Element.{Element}
use Rattle.gtpv2_msg.specs.declared.element.ReadIe.{ReadIe}
use Rattle.gtpv2_msg.specs.RowFault.{ebi_in, held_ebi}

by_element : (kind instance : ℕ) (element : Option Element) (ies : List ReadIe)
    → let ie : ReadIe = record { kind = kind; instance = instance; element = element } in
    held_ebi (ie ∷ ies) ≡ option_or (ebi_in ie) (held_ebi ies)
by_element kind instance None ies = refl
by_element kind instance (Some element) ies = refl

-- an element before others
pub held_before : (ie : ReadIe) (ies : List ReadIe) → held_ebi (ie ∷ ies) ≡ option_or (ebi_in ie) (held_ebi ies)
held_before ie ies = by_element ie.kind ie.instance ie.element ies
