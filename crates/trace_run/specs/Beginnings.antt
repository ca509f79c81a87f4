-- Where a trace begins in an input.
use Rattle.std.specs.Prelude.{ℕ, ◌+◌, ◌^◌, List}
use Rattle.trace_lines.specs.Input.{Input, input_within}

-- how many octets are looked at from there on, the number of its first line, and the least moment that this may have
pub record Beginning : Type 0 where
  pub room : ℕ
  pub number : ℕ
  pub least : ℕ

-- behind so many lines, the last of which has this moment
abbrev pub behind : (room lines least : ℕ) → Beginning
behind room lines least = record { room = room; number = lines + 1; least = least }

-- an input that is a trace alone
abbrev pub whole_input : Beginning
whole_input = record { room = 2 ^ 40; number = 1; least = 0 }

-- what octets say from there on
abbrev pub input_from : Beginning → List ℕ → Input
input_from begin octets = input_within begin.room begin.number begin.least octets
