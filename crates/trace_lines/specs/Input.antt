-- What a trace says: its lines, and why it stops.
use Rattle.std.specs.Prelude.{ℕ, ◌+◌, ◌==◌, Bool, List, [], ◌∷◌, ◌++◌, length, take, nat_lt, nat_le}
use Rattle.std.specs.Prelude.{if◌then◌else◌, Result, Ok, Err}
use Rattle.std.specs.List.{slice_split}
use Rattle.pc_outside.specs.Limits.{newline, line_max, input_max}
use Rattle.trace_lines.specs.declared.bad.LineBad.{LineBad}
use Rattle.text_fields.specs.Fields.{is_empty}
use Rattle.trace_lines.specs.Line.{Line}
use Rattle.trace_lines.specs.Meaning.{line_meaning}

-- The first of these in the order of the input: the line of this number is refused · it has more
-- octets than a line may have · the input has more octets than are looked at · none of these.
pub data Stop : Type 0 where
  bad : ℕ → LineBad → Stop
  long : ℕ → Stop
  big : Stop
  ended : Stop

-- the lines before the stop
pub record Input : Type 0 where
  pub lines : List Line
  pub stop : Stop

abbrev pub stopped : Stop → Input
stopped stop = record { lines = []; stop = stop }

-- lines, and then what an input says behind them
abbrev pub after_lines : List Line → Input → Input
after_lines lines input = record { lines = lines ++ input.lines; stop = input.stop }

-- a line that isn't refused, and what comes behind it; or the refusal of the line of this number
abbrev pub line_then : ℕ → Result Line LineBad → (Line → Input) → Input
line_then number (Ok line) behind = after_lines (line ∷ []) (behind line)
line_then number (Err why) behind = stopped (bad number why)

-- the rest behind the last newline: unfinished where the octets that are looked at end with it
abbrev pub rest_meaning : Bool → ℕ → ℕ → List ℕ → Input
rest_meaning full number least rest =
    if nat_lt line_max (length rest) then stopped (long number)
    else if full then stopped big
    else if is_empty rest then stopped ended
    else line_then number (line_meaning least number rest) (λ _. stopped ended)

-- the pieces between newlines: whole lines, and the rest behind the last newline
abbrev pub pieces_meaning : Bool → ℕ → ℕ → List (List ℕ) → Input
pieces_meaning full number least [] = stopped ended
pieces_meaning full number least (rest ∷ []) = rest_meaning full number least rest
pieces_meaning full number least (line ∷ next ∷ pieces) =
    if nat_lt line_max (length line) then stopped (long number)
    else line_then number (line_meaning least number line)
    (λ l. pieces_meaning full (number + 1) l.moment (next ∷ pieces))

-- what octets say from the line of this number on, where so many are looked at and no moment goes below the least
unfoldable pub input_within : ℕ → ℕ → ℕ → List ℕ → Input
input_within room number least octets =
    pieces_meaning (nat_le room (length octets)) number least
    (slice_split (λ octet. octet == newline) (take room octets))

-- what a trace says: lines count from 1, moments from 0, and just so many octets are looked at
abbrev pub input_of : List ℕ → Input
input_of octets = input_within input_max 1 0 octets
