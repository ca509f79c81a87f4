-- What the lines before a trace say: a state, or none.
use Rattle.std.specs.Prelude.{◌≡◌, ℕ, not, true, false, List, [], ◌∷◌, length, take, drop, bytes_eq}
use Rattle.std.specs.Prelude.{Option, None, unwrap_or, if◌then◌else◌}
use Rattle.std.specs.Option.{is_some}
use Rattle.text_fields.specs.Hexadecimal.{octets_of}
use Rattle.pc_outside.specs.Texts.{Text}
use Rattle.record_codec.specs.Saved.{FileState, IsFile}
use Rattle.record_codec.specs.Spelling.{state}
use Rattle.record_codec.specs.declared.state_lines.StateLines.{StateLines}
use Rattle.record_codec.specs.declared.state_lines.StateSaid.{StateSaid}
use Rattle.record_codec.specs.declared.state_lines.StateSaid.TheVariants as said
use Rattle.record_codec.specs.StateText.{piece_len, state_word, trace_word, joined, are_pieces}

-- the octets of a line of a state, whose digits may be in either case
abbrev pub piece_in : Text → Option (List ℕ)
piece_in text = if bytes_eq (take 6 text) state_word then octets_of (drop 6 text) else None

-- the pieces of the lines before the first other line · that line, and those behind it
abbrev pub pieces_in : List Text → List (List ℕ)
pieces_in [] = []
pieces_in (text ∷ texts) =
    if is_some (piece_in text) then unwrap_or (piece_in text) [] ∷ pieces_in texts else []

abbrev pub others_in : List Text → List Text
others_in [] = []
others_in (text ∷ texts) = if is_some (piece_in text) then others_in texts else text ∷ texts

-- the lines are those of a state and the line `TRACE`: they have the state of this file
pub record SaysState (texts : List Text) (file : FileState) : Type 0 where
  pub whole : are_pieces (pieces_in texts) ≡ true
  pub kept : IsFile file
  pub octets : joined (pieces_in texts) ≡ state file
  pub trace : others_in texts ≡ trace_word ∷ []

-- the last of the lines is the first that is none of a state, and they have no state
pub record SaysNone (texts : List Text) : Type 0 where
  pub other : Text
  pub last : others_in texts ≡ other ∷ []
  pub none : (file : FileState) → SaysState texts file → ⊥

-- ---- what was heard so far

-- how many octets the last piece has; before the first one as many as a piece that may be followed
abbrev pub last_len : List (List ℕ) → ℕ
last_len [] = piece_len
last_len (piece ∷ []) = length piece
last_len (piece ∷ next ∷ pieces) = last_len (next ∷ pieces)

-- these are lines of a state alone: their octets are kept while they may be those of one
pub record HasHeard (lines_heard : StateLines) (texts : List Text) : Type 0 where
  pub each : others_in texts ≡ []
  pub broken : lines_heard.broken ≡ not (are_pieces (pieces_in texts))
  pub octets : lines_heard.broken ≡ false → lines_heard.octets.items ≡ joined (pieces_in texts)
  pub last : lines_heard.broken ≡ false → lines_heard.last ≡ last_len (pieces_in texts)

-- what the lines say with the one that was heard last
abbrev pub Says : StateSaid → StateLines → List Text → Type 0
Says said.More lines_heard texts = HasHeard lines_heard texts
Says (said.Found file) lines_heard texts = SaysState texts file
Says said.BadState lines_heard texts = SaysNone texts
