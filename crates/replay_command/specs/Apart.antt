-- Lines that were read apart from those before them, one behind another.
use Rattle.std.specs.Prelude.{◌≡◌, ℕ, ◌≤◌, ◌⊎◌, true, List, [], ◌∷◌, ◌++◌, length, Result, Ok, Err}
use Rattle.pc_outside.specs.Limits.{newline, line_max}
use Rattle.pc_outside.specs.Line.{NoNewline}
use Rattle.trace_lines.specs.Line.{Line}
use Rattle.trace_lines.specs.Meaning.{line_meaning}
use Rattle.trace_lines.specs.declared.bad.LineBad.{LineBad}
use Rattle.trace_lines.specs.declared.bad.LineBad.TheVariants.{NoMemory}
use Rattle.replay_command.specs.declared.line_blocks.Apart.{Apart}
use Rattle.replay_command.specs.declared.line_blocks.LineBlock.{LineBlock}

-- what a text means under the number 0, where each moment may come; or memory ran out
abbrev pub MeansApart : Result Line LineBad → List ℕ → Type 0
MeansApart (Ok line) text = line_meaning 0 0 text ≡ Ok line
MeansApart (Err why) text = (why ≡ NoMemory) ⊎ (line_meaning 0 0 text ≡ Err why)

-- octets begin with a line of which this was read, and these are behind it
pub record IsFirst (one : Apart) (octets behind : List ℕ) : Type 0 where
  pub text : List ℕ
  pub parts : octets ≡ text ++ newline ∷ behind
  pub no_newline : NoNewline text
  pub short : length text ≤ line_max
  pub long : one.len ≡ length text
  pub means : MeansApart one.line text

-- the same of some lines, one behind another
abbrev pub AreFirst : List Apart → List ℕ → List ℕ → Type 0
AreFirst [] octets behind = octets ≡ behind
AreFirst (one ∷ more) octets behind = (rest : List ℕ) × IsFirst one octets rest × AreFirst more rest behind

-- these were read of octets; where it is the whole, nothing is behind them
pub record IsPart (part : LineBlock) (octets : List ℕ) : Type 0 where
  pub behind : List ℕ
  pub lines : AreFirst part.lines.items octets behind
  pub whole : part.whole ≡ true → behind ≡ []

-- the line of this number
abbrev pub numbered : ℕ → Result Line LineBad → Result Line LineBad
numbered number (Ok line) = Ok (record line { number = number })
numbered number (Err why) = Err why
