-- What is next in an input, by what the octets say from a line on.
use Rattle.std.specs.Prelude.{◌≡◌, ℕ, ◌+◌, ◌<◌, ◌≤◌, List, [], ◌∷◌, ◌++◌, length, Bool}
use Rattle.std.specs.Prelude.{Option, if◌then◌else◌}
use Rattle.pc_outside.specs.Limits.{line_max, newline}
use Rattle.trace_lines.specs.Input.{bad, long, big, ended, stopped, after_lines, input_within}
use Rattle.trace_lines.specs.Line.{Line}
use Rattle.trace_lines.specs.Text.{line_text}
use Rattle.trace_lines.specs.declared.bad.LineBad.{LineBad}
use Rattle.trace_lines.specs.declared.bad.LineBad.TheVariants as why
use Rattle.pc_outside.specs.WhereTold.{WhereTold}
use Rattle.trace_run.specs.Coming.{Next}
use Rattle.trace_run.specs.Coming as next
use Rattle.trace_run.specs.declared.reading.Next.{Next as Read}
use Rattle.trace_run.specs.declared.reading.Next.TheVariants as read

-- what comes next, with the line that was read
abbrev pub said_in : Read → Line → Next
said_in (read.Line len) line = next.Line line len
said_in (read.Last len) line = next.Last line len
said_in (read.Bad why) line = next.Bad why
said_in read.End line = next.End
said_in read.LineLong line = next.LineLong
said_in read.TooLong line = next.TooLong
said_in read.ReadFault line = next.ReadFault
said_in read.NoMemory line = next.NoMemory

-- the octets begin with a text and its newline, which say this line and then what stands behind them
pub record SaysLine (line : Line) (number least room after : ℕ) (octets rest : List ℕ) : Type 0 where
  pub text : List ℕ
  pub parts : octets ≡ text ++ newline ∷ rest
  pub given : room ≡ length text + 1 + after
  pub says : (behind : List ℕ) → input_within room number least (text ++ newline ∷ behind)
      ≡ after_lines (line ∷ []) (input_within after (number + 1) line.moment behind)

-- what the octets say with this room, and what rest and room they leave
abbrev pub Says : Next → ℕ → ℕ → ℕ → ℕ → List ℕ → List ℕ → Type 0
Says (next.Line line len) number least room after octets rest = SaysLine line number least room after octets rest
Says (next.Last line len) number least room after octets rest =
    (input_within room number least octets ≡ after_lines (line ∷ []) (stopped ended)) × (rest ≡ [])
Says (next.Bad why) number least room after octets rest =
    input_within room number least octets ≡ stopped (bad number why)
Says next.End number least room after octets rest = (input_within room number least octets ≡ stopped ended)
    × (rest ≡ [])
Says next.LineLong number least room after octets rest = input_within room number least octets ≡ stopped (long number)
Says next.TooLong number least room after octets rest = input_within room number least octets ≡ stopped big
Says next.ReadFault number least room after octets rest = (rest ≡ octets) × (after ≡ room)
Says next.NoMemory number least room after octets rest = Unit {0}

-- the same, where the octets are told
abbrev pub Tells : Next → ℕ → ℕ → ℕ → ℕ → Option (List ℕ) → Option (List ℕ) → Type 0
Tells what number least room after start now =
    WhereTold start now (λ octets rest. Says what number least room after octets rest)

-- a line takes room: for an octet at least and the newline, which may be absent behind the last one
abbrev pub TakesRoom : Next → ℕ → ℕ → Type 0
TakesRoom (next.Line line len) room after = after + 2 ≤ room
TakesRoom (next.Last line len) room after = (after < room) × (2 ≤ room)
TakesRoom (next.Bad why) room after = Unit {0}
TakesRoom next.End room after = Unit {0}
TakesRoom next.LineLong room after = Unit {0}
TakesRoom next.TooLong room after = Unit {0}
TakesRoom next.ReadFault room after = Unit {0}
TakesRoom next.NoMemory room after = Unit {0}

-- a line comes with its number and with the length of its text, which isn't too long, and isn't below the least moment
pub record IsNext (line : Line) (len number least : ℕ) : Type 0 where
  pub numbered : line.number ≡ number
  pub long : len ≡ length (line_text line)
  pub short : len ≤ line_max
  pub late : least ≤ line.moment

abbrev pub Gives : Next → ℕ → ℕ → Type 0
Gives (next.Line line len) number least = IsNext line len number least
Gives (next.Last line len) number least = IsNext line len number least
Gives (next.Bad why) number least = Unit {0}
Gives next.End number least = Unit {0}
Gives next.LineLong number least = Unit {0}
Gives next.TooLong number least = Unit {0}
Gives next.ReadFault number least = Unit {0}
Gives next.NoMemory number least = Unit {0}

-- a line that was read, with the length of its text, and whether it is the last one
abbrev pub given_as : Line → ℕ → Bool → Next
given_as line len last = if last then next.Last line len else next.Line line len

-- a line that can't be read
abbrev pub refused_as : LineBad → Next
refused_as why.Field = next.Bad why.Field
refused_as why.Number = next.Bad why.Number
refused_as why.Kind = next.Bad why.Kind
refused_as why.Hex = next.Bad why.Hex
refused_as why.MomentBack = next.Bad why.MomentBack
refused_as why.NoMemory = next.NoMemory
