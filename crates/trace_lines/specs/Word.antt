-- The word that tells a refusal in a report.
use Rattle.std.specs.Prelude.{ℕ, List, codes}
use Rattle.trace_lines.specs.declared.bad.LineBad.{LineBad}
use Rattle.trace_lines.specs.declared.bad.LineBad.TheVariants.{Field, Number, Kind, Hex, MomentBack, NoMemory}

abbrev pub word_of : LineBad → List ℕ
word_of Field = codes "field"
word_of Number = codes "number"
word_of Kind = codes "kind"
word_of Hex = codes "hex"
word_of MomentBack = codes "moment"
word_of NoMemory = codes "memory"
