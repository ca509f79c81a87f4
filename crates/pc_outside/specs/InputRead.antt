-- How far an input was read.
use Rattle.std.specs.Prelude.{◌≡◌, ℕ, ◌+◌, ◌<◌, ◌≤◌, ◌^◌, List, [], ◌++◌, length}
use Rattle.pc_outside.specs.Limits.{line_max}
use Rattle.pc_outside.specs.Line.{NoNewline}
use Rattle.pc_outside.specs.Texts.{Text, after_lines, big, ended, long, texts_of, texts_within}
use Rattle.pc_outside.specs.declared.input_stop.InputStop.{InputStop}
use Rattle.pc_outside.specs.declared.input_stop.InputStop.TheVariants as stopped

-- the octets before those ahead are these lines, whatever comes behind
pub record HasRead (octets ahead : List ℕ) (room : ℕ) (done : List Text) : Type 0 where
  pub gone : List ℕ
  pub parts : octets ≡ gone ++ ahead
  pub taken : length gone + room ≡ 2 ^ 40
  pub says : (behind : List ℕ) → texts_of (gone ++ behind) ≡ after_lines done (texts_within room behind)

-- all octets were read, and they end as they should
abbrev pub IsReadWhole : List ℕ → List ℕ → Type 0
IsReadWhole octets left = ((texts_of octets).stop ≡ ended) × (left ≡ [])

-- what was taken before a source failed has no line that is too long, and is less than what is looked at
pub record IsTaken (octets left : List ℕ) : Type 0 where
  pub taken : List ℕ
  pub parts : octets ≡ taken ++ left
  pub stop : (texts_of taken).stop ≡ ended

-- What was taken before it failed are these lines, each with its newline, and behind them an unfinished one, which
-- isn't too long; and it is less than what is looked at.
pub record FailsBehind (octets left : List ℕ) (done : List Text) : Type 0 where
  pub unfinished : List ℕ
  pub room : ℕ
  pub read : HasRead octets (unfinished ++ left) room done
  pub no_newline : NoNewline unfinished
  pub short : length unfinished ≤ line_max
  pub more : length unfinished < room

-- the octets that a source had and those that it has left, where no more lines come
abbrev pub Reached : InputStop → List ℕ → List ℕ → List Text → Type 0
Reached stopped.Ended octets left done = IsReadWhole octets left × ((texts_of octets).lines ≡ done)
Reached stopped.ReadFault octets left done = FailsBehind octets left done
Reached stopped.LineLong octets left done = ((texts_of octets).stop ≡ long) × ((texts_of octets).lines ≡ done)
Reached stopped.TooLong octets left done = ((texts_of octets).stop ≡ big) × ((texts_of octets).lines ≡ done)
