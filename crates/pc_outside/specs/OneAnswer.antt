-- The octets decide the answer, faults aside.
use Rattle.std.specs.Prelude.{◌≡◌, ◌≢◌, ℕ, Bool, List}
use Rattle.pc_outside.specs.LineReads.{Answers}
use Rattle.pc_outside.specs.declared.reading.LineRead.{LineRead}
use Rattle.pc_outside.specs.declared.reading.LineRead.TheVariants.{ReadFault}

-- two answers, their lines, whether these are the last ones, and what they leave are the same
pub record AreOne (first second : LineRead) (after after' : ℕ) (rest rest' line line' : List ℕ)
    (last last' : Bool) : Type 0 where
  pub read : first ≡ second
  pub room : after ≡ after'
  pub left : rest ≡ rest'
  pub given : line ≡ line'
  pub same_last : last ≡ last'

-- no two answers fit the same octets and room
abbrev pub OneAnswer : Type 0
OneAnswer = (first second : LineRead) (room after after' : ℕ) (octets rest rest' line line' : List ℕ)
    (last last' : Bool)
    → first ≢ ReadFault → second ≢ ReadFault
    → Answers first room after octets rest line last → Answers second room after' octets rest' line' last'
    → AreOne first second after after' rest rest' line line' last last'
