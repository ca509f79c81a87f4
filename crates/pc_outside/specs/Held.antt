-- What a line buffer holds.
use Rattle.std.specs.Prelude.{ℕ, ◌<◌, ◌≤◌, Bool, List, length}
use Rattle.pc_outside.specs.Line.{NoNewline, BeginsLong, FillsRoom}
use Rattle.pc_outside.specs.Limits.{line_max}
use Rattle.pc_outside.specs.declared.reading.LineRead.{LineRead}
use Rattle.pc_outside.specs.declared.reading.LineRead.TheVariants.{Line, End, ReadFault, LineLong, TooLong}

-- the line that was read last, whether the input ends with it, the octets read and not yet given, and the
-- room from their start on
pub record Held : Type 0 where
  pub line : List ℕ
  pub last : Bool
  pub buffered : List ℕ
  pub room : ℕ

-- an unfinished line waits for more octets, and there is room for them
pub record IsUnfinished (held : Held) : Type 0 where
  pub no_newline : NoNewline held.buffered
  pub short : length held.buffered ≤ line_max
  pub more : length held.buffered < held.room

-- whatever the source gives, this is the answer from here on
abbrev pub HasStopped : LineRead → Held → Type 0
HasStopped Line held = ⊥
HasStopped End held = ⊥
HasStopped ReadFault held = ⊥
HasStopped LineLong held = BeginsLong held.room held.buffered
HasStopped TooLong held = FillsRoom held.room held.buffered
