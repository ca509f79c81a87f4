-- The steps of `read_line`: what is held settles an answer, gains octets, or is all there is.
use Rattle.std.specs.Prelude.{◌≡◌, ℕ, ◌<◌, ◌≤◌, true, List, [], ◌++◌, length, Option}
use Rattle.std.specs.Io.KnownBytes.{Consumes}
use Rattle.pc_outside.specs.Line.{NoNewline, IsWholeLine, IsLastLine, BeginsLong, FillsRoom}
use Rattle.pc_outside.specs.Held.{Held}
use Rattle.pc_outside.specs.Limits.{line_max}
use Rattle.pc_outside.specs.declared.reading.LineRead.{LineRead}
use Rattle.pc_outside.specs.declared.reading.LineRead.TheVariants.{Line, End, ReadFault, LineLong, TooLong}

-- a whole line at the start of what was held is the line now
pub record GivesWhole (old new : Held) : Type 0 where
  pub no_newline : NoNewline new.line
  pub short : length new.line ≤ line_max
  pub whole : IsWholeLine old.room new.room old.buffered new.buffered new.line
  pub last : new.last ≡ old.last

-- what is held gives the answer, whatever comes behind it
abbrev pub Settles : LineRead → Held → Held → Type 0
Settles Line old new = GivesWhole old new
Settles End old new = ⊥
Settles ReadFault old new = ⊥
Settles LineLong old new = (new ≡ old) × BeginsLong old.room old.buffered
Settles TooLong old new = (new ≡ old) × FillsRoom old.room old.buffered

-- octets that a source gave stand behind those held
pub record Gains (old new : Held) (left left_now : Option (List ℕ)) (count : ℕ) : Type 0 where
  pub given : List ℕ
  pub buffered : new.buffered ≡ old.buffered ++ given
  pub consumed : Consumes left left_now given
  pub counted : length given ≡ count
  pub room : new.room ≡ old.room
  pub line : new.line ≡ old.line
  pub last : new.last ≡ old.last

-- an unfinished line is the last one
pub record GivesLast (old new : Held) : Type 0 where
  pub no_newline : NoNewline new.line
  pub short : length new.line ≤ line_max
  pub form : IsLastLine old.room new.room old.buffered new.buffered new.line
  pub last : new.last ≡ true

-- at the end of the source this is the answer
abbrev pub Finishes : LineRead → Held → Held → Type 0
Finishes Line old new = GivesLast old new
Finishes End old new = (new ≡ old) × (old.buffered ≡ []) × (0 < old.room)
Finishes ReadFault old new = ⊥
Finishes LineLong old new = ⊥
Finishes TooLong old new = ⊥
