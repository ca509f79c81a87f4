-- The lines of an input, whatever they say.
use Rattle.std.specs.Prelude.{ℕ, ◌==◌, Bool, List, [], ◌∷◌, ◌++◌, length, take, nat_lt, nat_le, if◌then◌else◌}
use Rattle.std.specs.List.{slice_split}
use Rattle.pc_outside.specs.Limits.{newline, line_max, input_max}
use Rattle.text_fields.specs.Fields.{is_empty}

-- a line without its newline
abbrev pub Text : Type 0
Text = List ℕ

-- Why no more lines come: a line has more octets than it may have · the input has more octets than are looked at ·
-- neither.
pub data Stop : Type 0 where
  long : Stop
  big : Stop
  ended : Stop

pub record Texts : Type 0 where
  pub lines : List Text
  pub stop : Stop

abbrev pub stopped : Stop → Texts
stopped stop = record { lines = []; stop = stop }

abbrev pub after_lines : List Text → Texts → Texts
after_lines lines texts = record { lines = lines ++ texts.lines; stop = texts.stop }

-- the rest behind the last newline: unfinished where the octets that are looked at end with it
abbrev pub rest_texts : Bool → List ℕ → Texts
rest_texts full rest =
    if nat_lt line_max (length rest) then stopped long
    else if full then stopped big
    else if is_empty rest then stopped ended
    else after_lines (rest ∷ []) (stopped ended)

-- the pieces between newlines: whole lines, and the rest behind the last newline
abbrev pub pieces_texts : Bool → List (List ℕ) → Texts
pieces_texts full [] = stopped ended
pieces_texts full (rest ∷ []) = rest_texts full rest
pieces_texts full (line ∷ next ∷ pieces) =
    if nat_lt line_max (length line) then stopped long
    else after_lines (line ∷ []) (pieces_texts full (next ∷ pieces))

-- the lines of octets, where so many are looked at
unfoldable pub texts_within : ℕ → List ℕ → Texts
texts_within room octets =
    pieces_texts (nat_le room (length octets)) (slice_split (λ octet. octet == newline) (take room octets))

-- the lines of an input
abbrev pub texts_of : List ℕ → Texts
texts_of octets = texts_within input_max octets
