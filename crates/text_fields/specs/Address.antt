-- IPv4 addresses as texts: four numbers below 256 with a dot between each two, the first one the highest octet.
use Rattle.std.specs.Prelude.{ℕ, List, [], ◌∷◌, decimal, map, Option, Some, None}
use Rattle.std.specs.Int.{w32, to_be_bytes, from_be_bytes}
use Rattle.std.specs.List.{join_with_byte}
use Rattle.text_fields.specs.Fields.{pieces}
use Rattle.text_fields.specs.Number.{number_in}

abbrev pub dot : ℕ
dot = 46

-- the text of an address
abbrev pub dotted : ℕ → List ℕ
dotted address = join_with_byte dot (map decimal (to_be_bytes w32 address))

-- the second, where the first is there
infixl 10 ◌>>=◌
abbrev pub ◌>>=◌ : {A B : Type 0} → Option A → (A → Option B) → Option B
(Some x) >>= f = f x
None >>= f = None

-- the address that a text is
abbrev pub parts_of : List (List ℕ) → Option ℕ
parts_of (a ∷ b ∷ c ∷ d ∷ []) = do
  first ← number_in 0 255 a
  second ← number_in 0 255 b
  third ← number_in 0 255 c
  fourth ← number_in 0 255 d
  Some (from_be_bytes w32 (first ∷ second ∷ third ∷ fourth ∷ []))
parts_of _ = None

abbrev pub address_of : List ℕ → Option ℕ
address_of text = parts_of (pieces dot text)
