-- Lines that a trace may have, one behind another.
use Rattle.std.specs.Prelude.{◌≡◌, ℕ, ◌+◌, ◌≤◌, List, [], ◌∷◌, length}
use Rattle.pc_outside.specs.Line.{NoNewline}
use Rattle.trace_lines.specs.Line.{Line, IsLine}
use Rattle.trace_lines.specs.Text.{line_text}

-- a line whose text is one line, and short
pub record IsShort (line : Line) : Type 0 where
  pub is_line : IsLine line
  pub no_newline : NoNewline (line_text line)
  pub short : length (line_text line) ≤ 600

-- they are numbered from this number on, and their moments rise from this moment on
abbrev pub AreInOrder : ℕ → ℕ → List Line → Type 0
AreInOrder number least [] = Unit {0}
AreInOrder number least (line ∷ lines) =
    (line.number ≡ number) × (least ≤ line.moment) × IsShort line × AreInOrder (number + 1) line.moment lines
