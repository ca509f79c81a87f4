-- What comes next in a trace, with the line that was read.
use Rattle.std.specs.Prelude.{ℕ}
use Rattle.trace_lines.specs.Line.{Line as TraceLine}
use Rattle.trace_lines.specs.declared.bad.LineBad.{LineBad}

pub data Next : Type 0 where
  Line : TraceLine → ℕ → Next
  Last : TraceLine → ℕ → Next
  Bad : LineBad → Next
  End : Next
  LineLong : Next
  TooLong : Next
  ReadFault : Next
  NoMemory : Next
