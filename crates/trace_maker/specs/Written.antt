-- What stands written of lines.
use Rattle.std.specs.Prelude.{◌≡◌, ℕ, ◌<◌, List, ◌∷◌, ◌++◌, length, Option}
use Rattle.std.specs.Io.KnownBytes.{Appends}
use Rattle.trace_lines.specs.Line.{Line}
use Rattle.trace_maker.specs.Generated.{row_of, text_of}

-- known octets grow by the text of some first lines, and not of all
pub record AppendsLines (old new : Option (List ℕ)) (lines : List Line) : Type 0 where
  pub prefix : List Line
  pub rest : List Line
  pub parts : lines ≡ prefix ++ rest
  pub some_left : 0 < length rest
  pub appended : Appends old new (text_of prefix)

-- the first of the lines is made, and its text stands behind the text before
pub record PushesLine (text_before text : List ℕ) (lines_before lines : List Line) : Type 0 where
  pub line : Line
  pub made : lines_before ≡ line ∷ lines
  pub pushed : text ≡ text_before ++ row_of line
