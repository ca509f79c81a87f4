-- A value, or why a line is refused.
use Rattle.std.specs.Prelude.{Result, Ok, Err}
use Rattle.trace_lines.specs.declared.bad.LineBad.{LineBad}

-- the second reading, where the first one isn't refused
infixl 10 ◌>>=◌
abbrev pub ◌>>=◌ : {A B : Type 0} → Result A LineBad → (A → Result B LineBad) → Result B LineBad
(Ok x) >>= f = f x
(Err e) >>= f = Err e
