-- A line of text as fields with one space between each two.
use Rattle.std.specs.Prelude.{ℕ, ◌==◌, ◌≢◌, Bool, true, false, List, [], ◌∷◌, ◌++◌, Option, All}
use Rattle.std.specs.Borrow.{Bor}
use Rattle.std.specs.List.{slice_split, list_any, join_with_byte}
use Rattle.std.specs.Option.{option_map_or}

-- what stands between fields
abbrev pub space : ℕ
space = 32

-- the pieces of a text between octets of a kind: one more than there are such octets
abbrev pub pieces : ℕ → List ℕ → List (List ℕ)
pieces at text = slice_split (λ octet. octet == at) text

-- the fields of a text, and the text of fields
abbrev pub fields_of : List ℕ → List (List ℕ)
fields_of text = pieces space text

abbrev pub joined : List (List ℕ) → List ℕ
joined fields = join_with_byte space fields

-- fields behind something: a space and a field, for each
abbrev pub behind : List (List ℕ) → List ℕ
behind [] = []
behind (field ∷ fields) = space ∷ field ++ behind fields

-- whether a field has no octet
abbrev pub is_empty : List ℕ → Bool
is_empty [] = true
is_empty (octet ∷ octets) = false

-- whether two spaces meet, or one stands at an end, or nothing at all is there
abbrev pub has_empty_field : List ℕ → Bool
has_empty_field text = list_any is_empty (fields_of text)

-- the pieces of what is left behind a cut, if anything is
abbrev pub pieces_left : ℕ → Option (Bor (List ℕ)) → List (List ℕ)
pieces_left at rest = option_map_or (λ text. pieces at text.now) rest []

-- none of the texts has an octet of this kind
abbrev pub AllLack : ℕ → List (List ℕ) → Type 0
AllLack at [] = Unit {0}
AllLack at (text ∷ texts) = All (λ octet. octet ≢ at) text × AllLack at texts
