-- What came of reading a state.
use Rattle.std.specs.Prelude.{◌≡◌, ℕ, ◌<◌, ◌≤◌, ◌⊎◌, List, [], ◌++◌, length, Option}
use Rattle.pc_outside.specs.Limits.{line_max}
use Rattle.pc_outside.specs.Line.{NoNewline}
use Rattle.pc_outside.specs.WhereTold.{WhereTold}
use Rattle.pc_outside.specs.Texts.{Text, Texts, after_lines, texts_of, big, ended, long}
use Rattle.pc_outside.specs.InputRead.{HasRead}
use Rattle.record_codec.specs.Saved.{FileState}
use Rattle.record_codec.specs.declared.state_reading.StateRead.{StateRead}
use Rattle.record_codec.specs.declared.state_reading.StateRead.TheVariants as read
use Rattle.record_codec.specs.StateLines.{SaysState, SaysNone, others_in}

-- octets begin with these lines, and those ahead are left with this room; or they are all of them, and the last line
-- has no newline and leaves room
abbrev pub AreRead : (octets rest : List ℕ) → ℕ → List Text → Type 0
AreRead octets rest room texts =
    HasRead octets rest room texts
    ⊎ ((rest ≡ []) × ((texts_of octets).lines ≡ texts) × ((texts_of octets).stop ≡ ended) × (0 < room))

-- the lines that were read have the state of this file, and behind them comes the trace
abbrev pub HasFound : FileState → (octets rest : List ℕ) → ℕ → Type 0
HasFound file octets rest room = (texts : List Text) × AreRead octets rest room texts × SaysState texts file

-- where a state was found: the octets that a source told, and what is ahead of the trace
abbrev pub Found : StateRead → (start ahead : Option (List ℕ)) → ℕ → Type 0
Found (read.Found file) start ahead room = WhereTold start ahead (λ octets rest. HasFound file octets rest room)
Found read.BadState start ahead room = Unit {0}
Found read.ReadFault start ahead room = Unit {0}
Found read.LineLong start ahead room = Unit {0}
Found read.TooLong start ahead room = Unit {0}

-- The first line that is none of a state is no `TRACE`, or the lines before it are no state · the octets end before
-- there is such a line.
abbrev pub BeginsBad : List ℕ → Type 0
BeginsBad octets =
    (texts : List Text) × (behind : Texts) × (texts_of octets ≡ after_lines texts behind) × SaysNone texts

abbrev pub EndsFirst : List ℕ → Type 0
EndsFirst octets = ((texts_of octets).stop ≡ ended) × (others_in (texts_of octets).lines ≡ [])

-- why none was found, by the octets of the source
abbrev pub IsBadState : List ℕ → Type 0
IsBadState octets = BeginsBad octets ⊎ EndsFirst octets

-- The source failed before that was known: what was taken are whole lines of a state alone, and behind them an
-- unfinished line, which isn't too long; and it is less than what is looked at.
pub record IsUndecided (octets left : List ℕ) : Type 0 where
  pub texts : List Text
  pub unfinished : List ℕ
  pub room : ℕ
  pub read : HasRead octets (unfinished ++ left) room texts
  pub no_newline : NoNewline unfinished
  pub short : length unfinished ≤ line_max
  pub more : length unfinished < room
  pub each : others_in texts ≡ []

abbrev pub IsLong : List ℕ → Type 0
IsLong octets = ((texts_of octets).stop ≡ long) × (others_in (texts_of octets).lines ≡ [])

abbrev pub IsBig : List ℕ → Type 0
IsBig octets = ((texts_of octets).stop ≡ big) × (others_in (texts_of octets).lines ≡ [])

-- and by those that it has left
abbrev pub Stopped : StateRead → (start left : Option (List ℕ)) → Type 0
Stopped (read.Found file) start left = Unit {0}
Stopped read.BadState start left = WhereTold start left (λ octets rest. IsBadState octets)
Stopped read.ReadFault start left = WhereTold start left IsUndecided
Stopped read.LineLong start left = WhereTold start left (λ octets rest. IsLong octets)
Stopped read.TooLong start left = WhereTold start left (λ octets rest. IsBig octets)
