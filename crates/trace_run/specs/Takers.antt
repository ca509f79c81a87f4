-- What takes the lines of an input, and how far it has come.
use Rattle.std.specs.Prelude.{◌≡◌, ℕ, ◌+◌, ◌<◌, ◌≤◌, ◌^◌, List, length, Option}
use Rattle.trace_lines.specs.Line.{Line}
use Rattle.trace_run.specs.declared.ending.Ending.{Ending}
use Rattle.pc_outside.specs.declared.writing.Unwritten.{Unwritten}
use Rattle.pc_outside.specs.declared.writing.Unwritten.TheVariants as unwritten
use Rattle.trace_run.specs.Beginnings.{Beginning, whole_input}
use Rattle.trace_run.specs.Lines.{BeginsFrom, HasRead, ReachedFrom}
use Rattle.pc_outside.specs.WhereTold.{WhereTold}

-- a line that may come behind these, the first of which has this number and the last this moment
pub record IsNextFrom (number : ℕ) (done : List Line) (latest : ℕ) (line : Line) : Type 0 where
  pub numbered : line.number ≡ length done + number
  pub late : latest ≤ line.moment
  pub few : length done < 2 ^ 39

-- the same of a trace whose lines count from 1
abbrev pub IsNextOf : List Line → ℕ → Line → Type 0
IsNextOf done latest line = IsNextFrom 1 done latest line

-- These lines were taken: what took them represents them, which is a relation to their last moment and to what a sink
-- told before the first of them and tells now.
pub record TakenSoFar (begin : Beginning)
    (represents : List Line → ℕ → Option (List ℕ) → Option (List ℕ) → Type 0)
    (start ahead old new : Option (List ℕ)) (lines least room : ℕ) (done : List Line) : Type 0 where
  pub stands : represents done least old new
  pub counted : lines + 1 ≡ length done + begin.number
  pub roomy : length done + length done + room ≤ 2 ^ 40
  pub read : WhereTold start ahead (λ octets rest. HasRead begin octets rest (lines + 1) least room done)

-- lines were taken, the last of which has the number `lines`, and no more come
pub record LinesEndFrom (begin : Beginning)
    (represents : List Line → ℕ → Option (List ℕ) → Option (List ℕ) → Type 0) (ending : Ending) (lines : ℕ)
    (start left old new : Option (List ℕ)) : Type 0 where
  pub done : List Line
  pub latest : ℕ
  pub counted : lines + 1 ≡ length done + begin.number
  pub few : length done ≤ 2 ^ 39
  pub reached : WhereTold start left (λ octets rest. ReachedFrom begin ending octets rest done)
  pub stands : represents done latest old new

-- what a sink tells where memory ran out behind these lines, or where it failed at the last of them
abbrev pub CutAt : {T : Type 0} → (T → List Line → ℕ → Option (List ℕ) → Option (List ℕ) → Type 0)
    → (List Line → Option (List ℕ) → Option (List ℕ) → Type 0) → Unwritten → List Line → Option (List ℕ)
    → Option (List ℕ) → Type 0
CutAt {T} represents breaks unwritten.NoMemory done old new =
    (taker : T) × (latest : ℕ) × represents taker done latest old new
CutAt {T} represents breaks unwritten.WriteFault done old new = breaks done old new

pub record LinesCutFrom (begin : Beginning) {T : Type 0}
    (represents : T → List Line → ℕ → Option (List ℕ) → Option (List ℕ) → Type 0)
    (breaks : List Line → Option (List ℕ) → Option (List ℕ) → Type 0) (why : Unwritten)
    (start left old new : Option (List ℕ)) : Type 0 where
  pub done : List Line
  pub reached : WhereTold start left (λ octets rest. BeginsFrom begin octets done)
  pub cut : CutAt represents breaks why done old new

-- the same of an input that is a trace alone
abbrev pub LinesEnd : (List Line → ℕ → Option (List ℕ) → Option (List ℕ) → Type 0) → Ending → ℕ
    → (start left old new : Option (List ℕ)) → Type 0
LinesEnd represents ending lines start left old new =
    LinesEndFrom whole_input represents ending lines start left old new

abbrev pub LinesCut : {T : Type 0} → (T → List Line → ℕ → Option (List ℕ) → Option (List ℕ) → Type 0)
    → (List Line → Option (List ℕ) → Option (List ℕ) → Type 0) → Unwritten
    → (start left old new : Option (List ℕ)) → Type 0
LinesCut represents breaks why start left old new =
    LinesCutFrom whole_input represents breaks why start left old new
