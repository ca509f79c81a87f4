-- What is written of a trace: its lines, and planned moves between them.
use Rattle.std.specs.Prelude.{ℕ, Option, Some, None, List, [], ◌∷◌, ◌++◌, map}
use Rattle.std.specs.List.{filter_map, flat_map}
use Rattle.pc_outside.specs.Limits.{newline}
use Rattle.trace_lines.specs.Line.{Line}
use Rattle.trace_lines.specs.Text.{line_text}

-- a line of the trace · a planned move
pub data Written : Type 0 where
  given : Line → Written
  planned : Line → Written

abbrev pub line_of : Written → Line
line_of (given line) = line
line_of (planned line) = line

abbrev pub lines_of : List Written → List Line
lines_of written = map line_of written

-- the lines of the trace among them
abbrev pub given_in : Written → Option Line
given_in (given line) = Some line
given_in (planned line) = None

abbrev pub without_planned : List Written → List Line
without_planned written = filter_map given_in written

-- each by its text
abbrev pub written_text : Written → List ℕ
written_text one = line_text (line_of one) ++ newline ∷ []

abbrev pub text_of : List Written → List ℕ
text_of written = flat_map written_text written
