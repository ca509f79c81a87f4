-- How a report is told, epoch by epoch.
use Rattle.std.specs.Prelude.{◌≡◌, ℕ, ◌+◌, ◌<◌, ◌^◌, Bool, true, false, List, [], ◌++◌, length, Option, flat_map}
use Rattle.std.specs.Io.KnownBytes.{Appends}
use Rattle.trace_lines.specs.Input.{Input}
use Rattle.trace_lines.specs.Line.{Line}
use Rattle.lawful_run.specs.Cut.{IsCut, lines_in}
use Rattle.lawful_run.specs.Report.{Report, epoch_entries, texts_of}
use Rattle.trace_run.specs.declared.ending.Ending.{Ending}
use Rattle.trace_run.specs.declared.epoch.Size.{Size}
use Rattle.trace_run.specs.Cut.{Counts}
use Rattle.trace_run.specs.Lines.{stop_of}
use Rattle.trace_run.specs.Report.{IsText, input_with}

-- the text of these epochs, which are whole
pub record SaysEpochs (may_have : Input → Report → Type 0) (places : Bool) (closed : List (List Line))
    (text : List ℕ) : Type 0 where
  pub report : Report
  pub allowed : may_have (input_with (lines_in closed)) report
  pub written : text ≡ texts_of places (flat_map epoch_entries report.epochs)

-- the text is that of the report that is due at an ending of these lines, the first of which has this number
abbrev pub IsDueFrom : ℕ → (Input → Report → Type 0) → Bool → Ending → List Line → List ℕ → Type 0
IsDueFrom number may_have places ending done text =
    IsText may_have places (record { lines = done; stop = stop_of ending (length done + number) }) text

abbrev pub IsDue : (Input → Report → Type 0) → Bool → Ending → List Line → List ℕ → Type 0
IsDue may_have places ending done text = IsDueFrom 1 may_have places ending done text

-- These lines are answered: whole epochs, whose text is the former, and those of the open one, whose text waits. What
-- represents them is a relation to these epochs, to the open lines and to both texts.
pub record StandingFrom (number : ℕ) (may_have : Input → Report → Type 0) (places : Bool)
    (represents : List (List Line) → List Line → List ℕ → List ℕ → Type 0) (size : Size) (waiting : List ℕ)
    (done : List Line) (sent : List ℕ) : Type 0 where
  pub closed : List (List Line)
  pub open_ : List Line
  pub cut : IsCut done closed open_
  pub stands : represents closed open_ sent waiting
  pub sized : Counts size (length done + number) open_
  pub low : number < 2 ^ 59
  pub said : SaysEpochs may_have places closed sent

-- the same of a trace whose lines count from 1
abbrev pub Standing : (Input → Report → Type 0) → Bool
    → (List (List Line) → List Line → List ℕ → List ℕ → Type 0) → Size → List ℕ → List Line → List ℕ → Type 0
Standing may_have places represents size waiting done sent =
    StandingFrom 1 may_have places represents size waiting done sent

-- the same behind a line; where it ended its epoch, the text of that waits whole
abbrev pub AnsweredFrom : ℕ → Bool → (Input → Report → Type 0) → Bool
    → (List (List Line) → List Line → List ℕ → List ℕ → Type 0) → Size → List ℕ → List Line → List ℕ → Type 0
AnsweredFrom number false may_have places represents size waiting done sent =
    StandingFrom number may_have places represents size waiting done sent
AnsweredFrom number true may_have places represents size waiting done sent =
    StandingFrom number may_have places represents size [] done (sent ++ waiting)

-- and where the text of the whole epochs was written
pub record HasWritten (number : ℕ) (may_have : Input → Report → Type 0) (places : Bool)
    (represents : List (List Line) → List Line → List ℕ → List ℕ → Type 0) (size : Size) (waiting : List ℕ)
    (done : List Line) (old new : Option (List ℕ)) : Type 0 where
  pub sent : List ℕ
  pub written : Appends old new sent
  pub standing : StandingFrom number may_have places represents size waiting done sent

-- a prefix of the text of some first whole epochs of these lines was written
pub record BreaksOff (may_have : Input → Report → Type 0) (places : Bool) (done : List Line)
    (old new : Option (List ℕ)) : Type 0 where
  pub closed : List (List Line)
  pub open_ : List Line
  pub cut : IsCut done closed open_
  pub sent : List ℕ
  pub more : List ℕ
  pub written : Appends old new sent
  pub said : SaysEpochs may_have places closed (sent ++ more)
