-- The text of a saved state: lines `STATE` with its octets in hexadecimal, and the line `TRACE`, behind which a trace
-- may go on.
use Rattle.std.specs.Prelude.{◌≡◌, ℕ, ◌<◌, ◌==◌, ◌&&◌, nat_le, Bool, true, List, [], ◌∷◌, ◌++◌, length, codes}
use Rattle.std.specs.List.{AllByRecursion, flat_map}
use Rattle.hex.specs.Hex.{encode_lower}
use Rattle.pc_outside.specs.Limits.{newline}

-- how many octets a line has that isn't the last one of its state
abbrev pub piece_len : ℕ
piece_len = 32000

-- how a line of a state begins · the line behind them
abbrev pub state_word : List ℕ
state_word = codes "STATE "

abbrev pub trace_word : List ℕ
trace_word = codes "TRACE"

-- pieces, one behind another
abbrev pub joined : List (List ℕ) → List ℕ
joined pieces = flat_map (λ piece. piece) pieces

-- each piece has as many octets as a line, the last one maybe fewer
abbrev pub are_pieces : List (List ℕ) → Bool
are_pieces [] = true
are_pieces (piece ∷ []) = nat_le (length piece) piece_len
are_pieces (piece ∷ next ∷ pieces) = length piece == piece_len && are_pieces (next ∷ pieces)

-- the line of a piece, without and with its newline
abbrev pub piece_line : List ℕ → List ℕ
piece_line piece = state_word ++ encode_lower piece

abbrev pub state_line : List ℕ → List ℕ
state_line piece = piece_line piece ++ newline ∷ []

-- this is the text of these octets
pub record IsStateText (octets text : List ℕ) : Type 0 where
  pub pieces : List (List ℕ)
  pub whole : are_pieces pieces ≡ true
  pub some : AllByRecursion (λ (piece : List ℕ). 0 < length piece) pieces
  pub parts : octets ≡ joined pieces
  pub written : text ≡ flat_map state_line pieces ++ trace_word ++ newline ∷ []
