-- What it means that written elements read back.
use Rattle.std.specs.Prelude.{◌≡◌, ℕ, ◌+◌, List, [], ◌∷◌, length, Option, Some}
use Rattle.gtpv2_ie.specs.declared.context.Context.{Context}
use Rattle.gtpv2_ie.specs.declared.raw.RawIe.{RawIe}
use Rattle.gtpv2_ie.specs.Element.{Element}
use Rattle.gtpv2_ie.specs.Kind.{type_octet}
use Rattle.gtpv2_ie.specs.Spelling.{kind_of, plain_octets, context_octets}
use Rattle.gtpv2_ie.specs.Stand.{Stand, value_in}
use Rattle.gtpv2_ie.specs.Value.{value_at, context_of}

-- where the text of an element ends that begins at a place
abbrev pub end_of : (Context → List ℕ) → ℕ → Element → ℕ
end_of context at ie = at + 4 + length (plain_octets context ie.value)

-- the places of elements that are written one behind another from a place on, where `context` gives
-- the octets of a Context
abbrev pub places_by : (Context → List ℕ) → ℕ → List Element → List RawIe
places_by context at [] = []
places_by context at (ie ∷ ies) =
    record { kind = type_octet (kind_of ie.value); instance = ie.instance; from = at + 4; to = end_of context at ie }
    ∷ places_by context (end_of context at ie) ies

-- what stands at a place is this element, where `reads` says which Context octets spell
pub record IsReadAs (reads : List ℕ → Option Context) (octets : List ℕ) (raw : RawIe) (ie : Element) : Type 0 where
  pub kind : raw.kind ≡ type_octet (kind_of ie.value)
  pub instance : raw.instance ≡ ie.instance
  pub value : value_at reads raw.kind (value_in octets raw) ≡ Some ie.value

-- what stands at places are these elements, one for each
abbrev pub AreReadAs : (List ℕ → Option Context) → List ℕ → List RawIe → List Element → Type 0
AreReadAs reads octets [] [] = Unit {0}
AreReadAs reads octets (raw ∷ raws) (ie ∷ ies) = IsReadAs reads octets raw ie × AreReadAs reads octets raws ies
AreReadAs reads octets _ _ = ⊥

-- the places of elements that are written one behind another
abbrev pub places : List Element → List RawIe
places ies = places_by context_octets 0 ies

-- octets are these elements, one behind another, and each reads as it was written
pub record ReadBack (octets : List ℕ) (ies : List Element) : Type 0 where
  pub stand : Stand octets (places ies)
  pub read : AreReadAs context_of octets (places ies) ies
