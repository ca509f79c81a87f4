-- An address book: IMSIs in slot order.
use Rattle.std.specs.Prelude.{◌≡◌, ℕ, ◌≤◌, List, [], ◌∷◌, ◌++◌, length, Option, position, is_some, if◌then◌else◌}
use Rattle.std.specs.List.{IsDistinct}
use Rattle.std.specs.Str.{bytes_eq}

-- the slot of an IMSI: its place
abbrev pub slot_in : List (List ℕ) → List ℕ → Option ℕ
slot_in book imsi = position (bytes_eq imsi) book

-- each of the 65,533 slots is taken
abbrev pub IsFull : List (List ℕ) → Type 0
IsFull book = length book ≡ 65533

-- the book after an IMSI was admitted: a new one stands at the next place
abbrev pub admitted : List (List ℕ) → List ℕ → List (List ℕ)
admitted book imsi = if is_some (slot_in book imsi) then book else book ++ imsi ∷ []

-- what every book keeps: no IMSI stands in it twice, and none is past the last slot
pub record IsBook (book : List (List ℕ)) : Type 0 where
  pub distinct : IsDistinct bytes_eq book
  pub short : length book ≤ 65533
