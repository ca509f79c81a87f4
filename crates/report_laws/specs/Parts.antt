-- A trace in parts, each with the subscribers of some slots.
use Rattle.std.specs.Prelude.{◌≡◌, ◌≢◌, ℕ, ◌+◌, ◌<◌, ◌⊎◌, ◌==◌, Bool, List, [], ◌∷◌, ◌++◌, length}
use Rattle.trace_lines.specs.Input.{Input}
use Rattle.trace_lines.specs.Line.{Line}
use Rattle.demux.specs.Asked.{note}
use Rattle.demux.specs.Line.{asked}
use Rattle.demux.specs.Resolved.{book_after, decided, slot_of}
use Rattle.demux.specs.declared.decision.Decision.{Decision}
use Rattle.demux.specs.declared.decision.Decision.TheVariants.{Command, Packet, Move, Note}
use Rattle.report_lines.specs.declared.entry.LineEntry.{LineEntry}
use Rattle.lawful_run.specs.AnsweredRun.{entries_from}
use Rattle.lawful_run.specs.Report.{Report}
use Rattle.lawful_run.specs.Run.{no_events}
use Rattle.lawful_run.specs.Setup.{Setup, slices_of}
use Rattle.lawful_run.specs.Trace.{answered_report, stop_noted}
use Rattle.report_laws.specs.Lines.{AreAlike}
use Rattle.report_laws.specs.Told.{epoch_of, in_one, only, opens_of}

-- Each slot belongs to one of so many parts, and a line is for one: for that of the slot that it is a command,
-- packet or move of. What is nobody's may be for any, as for part 0.
abbrev pub IsFor : (ℕ → ℕ) → List (List ℕ) → Decision → ℕ → Type 0
IsFor part_of book (Command whose asks) part = part_of (slot_of book whose) ≡ part
IsFor part_of book (Packet at lent) part = part_of at ≡ part
IsFor part_of book (Move at slice) part = part_of at ≡ part
IsFor part_of book (Note text) part = Unit {0}

-- so of lines behind this book
abbrev pub AreFor : (ℕ → ℕ) → (count slices : ℕ) → List (List ℕ) → List Line → (parts : List ℕ) → Type 0
AreFor part_of count slices book [] [] = Unit {0}
AreFor part_of count slices book [] (part ∷ parts) = ⊥
AreFor part_of count slices book (line ∷ lines) [] = ⊥
AreFor part_of count slices book (line ∷ lines) (part ∷ parts) =
    ((part < count) × IsFor part_of book (decided slices book line) part)
    × AreFor part_of count slices (book_after book line) lines parts

-- In the place of a line that admits no one, and is for another part, stands one that is noted.
pub record IsReplaced (book : List (List ℕ)) (part own : ℕ) (line other : Line) : Type 0 where
  pub admits_none : book_after book line ≡ book
  pub not_own : part ≢ own
  pub text : List ℕ
  pub noted : asked other ≡ note text

-- Of lines that are for these parts, one part has each line, or a line in its place.
abbrev pub IsPart : ℕ → List (List ℕ) → List Line → (parts : List ℕ) → (others : List Line) → Type 0
IsPart own book [] parts [] = Unit {0}
IsPart own book [] parts (other ∷ others) = ⊥
IsPart own book (line ∷ lines) [] others = ⊥
IsPart own book (line ∷ lines) (part ∷ parts) [] = ⊥
IsPart own book (line ∷ lines) (part ∷ parts) (other ∷ others) =
    ((line ≡ other) ⊎ IsReplaced book part own line other)
    × IsPart own (book_after book line) lines parts others

-- a slot is one of a part's
abbrev pub is_of : (ℕ → ℕ) → ℕ → ℕ → Bool
is_of part_of part slot = part_of slot == part

-- the first of what is left, if there is one, and the others
abbrev pub next_of : {X : Type 0} → List X → List X
next_of [] = []
next_of (x ∷ xs) = x ∷ []

abbrev pub others_of : {X : Type 0} → List X → List X
others_of [] = []
others_of (x ∷ xs) = xs

-- Lists in lockstep: at each step the next of the part that is named is taken, and all lists go on by one.
abbrev pub in_lockstep : {X : Type 0} → List ℕ → (ℕ → List X) → List X
in_lockstep [] told = []
in_lockstep (part ∷ parts) told = next_of (told part) ++ in_lockstep parts (λ k. others_of (told k))

-- the note on the bad line that an input stops at, if it does
abbrev pub bad_noted : Input → List LineEntry
bad_noted input = entries_from (1 + length input.lines) no_events (stop_noted input.stop)

-- What the reports of parts tell is all that the whole one tells: each line's entry is that of the part that it is for,
-- and the bad line's stands behind them. Of each slot its part tells the same, over all epochs, and its open counters.
pub record TellAll (part_of : ℕ → ℕ) (parts : List ℕ) (input : Input) (report : Report) (reports : ℕ → Report) :
    Type 0 where
  pub lines : (in_one report).lines
      ≡ in_lockstep parts (λ part. (in_one (reports part)).lines) ++ bad_noted input
  pub each : (slot : ℕ)
      → epoch_of (only slot) (in_one report) ≡ epoch_of (only slot) (in_one (reports (part_of slot)))
  pub opens : (slot : ℕ) → opens_of (only slot) report ≡ opens_of (only slot) (reports (part_of slot))

-- An input is cut into so many others, by the part that each line is for.
pub record IsCutInto (part_of : ℕ → ℕ) (count slices : ℕ) (parts : List ℕ) (input : Input) (inputs : ℕ → Input) :
    Type 0 where
  pub within : (slot : ℕ) → part_of slot < count
  pub meant : AreFor part_of count slices [] input.lines parts
  pub each : (part : ℕ) → part < count → IsPart part [] input.lines parts (inputs part).lines

abbrev pub PartsTellAll : Type 0
PartsTellAll = (part_of : ℕ → ℕ) (count : ℕ) (parts : List ℕ) (setup : Setup) (input : Input) (inputs : ℕ → Input)
    → IsCutInto part_of count (slices_of setup) parts input inputs
    → TellAll part_of parts input (answered_report setup input) (λ part. answered_report setup (inputs part))

-- The whole and a part are alike to the part's slots.
abbrev pub PartsAreAlike : Type 0
PartsAreAlike = (part_of : ℕ → ℕ) (count slices own : ℕ) (lines : List Line) (parts : List ℕ) (others : List Line)
    → AreFor part_of count slices [] lines parts → IsPart own [] lines parts others
    → AreAlike (is_of part_of own) slices [] lines others
