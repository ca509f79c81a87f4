-- The one text of a line, and the lines that a text means.
use Rattle.std.specs.Prelude.{◌≡◌, ℕ, List, [], ◌∷◌, codes, decimal, map}
use Rattle.std.specs.Int.{w32, to_be_bytes}
use Rattle.hex.specs.Hex.{encode_lower}
use Rattle.text_fields.specs.Fields.{fields_of, joined}
use Rattle.text_fields.specs.Address.{dotted}
use Rattle.text_fields.specs.Hexadecimal.{in_lower_case}
use Rattle.trace_lines.specs.Kind.{LineKind}
use Rattle.trace_lines.specs.Kind as kind
use Rattle.trace_lines.specs.Line.{Line, IsLine}

abbrev pub kind_word : LineKind → List ℕ
kind_word (kind.S11 octets) = codes "S11"
kind_word (kind.S1u octets) = codes "S1U"
kind_word (kind.Sgi octets) = codes "SGI"
kind_word (kind.Attach imsi enb up down) = codes "ATTACH"
kind_word (kind.Bearer imsi qci mbr_up mbr_down gbr_up gbr_down tft) = codes "BEARER"
kind_word (kind.Filters imsi ebi tft) = codes "FILTERS"
kind_word (kind.Drop imsi ebi) = codes "DROP"
kind_word (kind.Ambr imsi up down) = codes "AMBR"
kind_word (kind.Move imsi slice) = codes "MOVE"
kind_word kind.Fence = codes "FENCE"

-- an IMSI is its digits; a TEID is eight digits, those of its four octets
abbrev pub arguments : LineKind → List (List ℕ)
arguments (kind.S11 octets) = encode_lower octets ∷ []
arguments (kind.S1u octets) = encode_lower octets ∷ []
arguments (kind.Sgi octets) = encode_lower octets ∷ []
arguments (kind.Attach imsi enb up down) =
    imsi ∷ dotted enb.addr ∷ encode_lower (to_be_bytes w32 enb.teid) ∷ decimal up ∷ decimal down ∷ []
arguments (kind.Bearer imsi qci mbr_up mbr_down gbr_up gbr_down tft) =
    imsi ∷ decimal qci ∷ decimal mbr_up ∷ decimal mbr_down ∷ decimal gbr_up ∷ decimal gbr_down ∷ encode_lower tft ∷ []
arguments (kind.Filters imsi ebi tft) = imsi ∷ decimal ebi ∷ encode_lower tft ∷ []
arguments (kind.Drop imsi ebi) = imsi ∷ decimal ebi ∷ []
arguments (kind.Ambr imsi up down) = imsi ∷ decimal up ∷ decimal down ∷ []
arguments (kind.Move imsi slice) = imsi ∷ decimal slice ∷ []
arguments kind.Fence = []

abbrev pub line_fields : Line → List (List ℕ)
line_fields line = decimal line.moment ∷ kind_word line.kind ∷ arguments line.kind

-- the text of a line; its number isn't part of it
abbrev pub line_text : Line → List ℕ
line_text line = joined (line_fields line)

-- a text with the hexadecimal digits of its arguments in lower case
abbrev pub lowered_fields : List (List ℕ) → List (List ℕ)
lowered_fields (moment ∷ word ∷ rest) = moment ∷ word ∷ map in_lower_case rest
lowered_fields fields = fields

abbrev pub lowered : List ℕ → List ℕ
lowered text = joined (lowered_fields (fields_of text))

-- a text means a line exactly where it is the line's text, up to the case of hexadecimal digits
pub record Means (text : List ℕ) (line : Line) : Type 0 where
  pub is_line : IsLine line
  pub is_text : lowered text ≡ line_text line
