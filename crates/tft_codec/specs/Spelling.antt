-- Which octets spell a traffic flow template (TS 24.008, 10.5.6.12), and the one text that is written.
use Rattle.std.specs.Prelude.{◌≡◌, ℕ, ◌+◌, ◌*◌, ◌%◌, List, [], ◌∷◌, ◌++◌, length}
use Rattle.std.specs.List.{flat_map}
use Rattle.tft_codec.specs.declared.filter.Filter.{Filter}
use Rattle.tft_codec.specs.declared.tft.Tft.{Tft}
use Rattle.tft_codec.specs.declared.tft.Tft.TheVariants.{Create, Delete, Add, Replace, Remove, Nothing}
use Rattle.tft_codec.specs.Types.{
  create_operation,
  delete_operation,
  add_operation,
  replace_operation,
  remove_operation,
  no_operation,
}
use Rattle.tft_codec.specs.Component.{contents}
use Rattle.tft_codec.specs.Tft.{IsTft}

-- the operation in bits 8 to 6, E in bit 5 (0: no parameter list), the number of entries in bits 4 to 1
abbrev pub first_octet : ℕ → ℕ → ℕ
first_octet operation number = 32 * operation + number

-- the direction in bits 6 and 5, the identifier in bits 4 to 1
abbrev pub filter_octet : Filter → ℕ
filter_octet f = 16 * f.direction + f.id

-- what follows a filter's first octet: its precedence, the length of its contents, and these
abbrev pub filter_body : Filter → List ℕ
filter_body f = f.precedence ∷ length (contents f.components) ∷ contents f.components

-- octets are these filters, one after another; bits 8 and 7 of the first octet of each are spare
abbrev pub SpellsFilters : List ℕ → List Filter → Type 0
SpellsFilters octets [] = octets ≡ []
SpellsFilters octets (f ∷ fs) =
    (first : ℕ) × (rest : List ℕ) × (octets ≡ first ∷ filter_body f ++ rest) × (first % 64 ≡ filter_octet f)
    × SpellsFilters rest fs

-- octets are these identifiers; bits 8 to 5 of each are spare
abbrev pub SpellsIds : List ℕ → List ℕ → Type 0
SpellsIds octets [] = octets ≡ []
SpellsIds octets (x ∷ xs) =
    (first : ℕ) × (rest : List ℕ) × (octets ≡ first ∷ rest) × (first % 16 ≡ x) × SpellsIds rest xs

-- the entries behind the first octet
abbrev pub SpellsEntries : List ℕ → ℕ → List Filter → Type 0
SpellsEntries octets operation fs =
    (rest : List ℕ) × (octets ≡ first_octet operation (length fs) ∷ rest) × SpellsFilters rest fs

abbrev pub SpellsOperation : List ℕ → Tft → Type 0
SpellsOperation octets (Create fs) = SpellsEntries octets create_operation fs
SpellsOperation octets Delete = octets ≡ first_octet delete_operation 0 ∷ []
SpellsOperation octets (Add fs) = SpellsEntries octets add_operation fs
SpellsOperation octets (Replace fs) = SpellsEntries octets replace_operation fs
SpellsOperation octets (Remove xs) =
    (rest : List ℕ) × (octets ≡ first_octet remove_operation (length xs) ∷ rest) × SpellsIds rest xs
SpellsOperation octets Nothing = octets ≡ first_octet no_operation 0 ∷ []

-- the octets are this template
abbrev pub Spells : List ℕ → Tft → Type 0
Spells octets t = IsTft t × SpellsOperation octets t

-- the one text of a filter, its spare bits 0
abbrev pub filter_text : Filter → List ℕ
filter_text f = filter_octet f ∷ filter_body f

abbrev pub entries_text : ℕ → List Filter → List ℕ
entries_text operation fs = first_octet operation (length fs) ∷ flat_map filter_text fs

-- the one text of a template
abbrev pub spelling : Tft → List ℕ
spelling (Create fs) = entries_text create_operation fs
spelling Delete = first_octet delete_operation 0 ∷ []
spelling (Add fs) = entries_text add_operation fs
spelling (Replace fs) = entries_text replace_operation fs
spelling (Remove xs) = first_octet remove_operation (length xs) ∷ xs
spelling Nothing = first_octet no_operation 0 ∷ []
