-- An input that stands in whole pieces: along, each is judged as an audit of the joined input judges them together.
use Rattle.std.specs.Prelude.{◌≡◌, ℕ, ◌+◌, ◌↔◌, Bool, true, false, List, [], ◌∷◌, ◌++◌, length}
use Rattle.pc_outside.specs.Texts.{Text}
use Rattle.report_lines.specs.declared.entry.ChargeEntry.TheVariants as charge
use Rattle.report_lines.specs.declared.entry.Entry.{Entry}
use Rattle.report_lines.specs.declared.entry.Entry.TheVariants as entry
use Rattle.trace_lines.specs.Input.{Input}
use Rattle.trace_lines.specs.Line.{Line}
use Rattle.lawful_run.specs.Run.{no_events}
use Rattle.lawful_run.specs.Setup.{Setup}
use Rattle.lawful_run.specs.Trace.{stop_noted}
use Rattle.audit_core.specs.Along.{IsOneEpoch, SaysNo, SaysYes, joined, pieces_of, said_in}
use Rattle.audit_core.specs.Entries.{line_entries, opens_told}
use Rattle.audit_core.specs.Findings.{Confirmed}
use Rattle.audit_core.specs.Said.{AreEntries, report_texts}

-- what a piece says of its trace behind these lines
abbrev pub said_behind : List Line → List Text → Input
said_behind before piece = said_in (record { epochs = 0; lines = before; events = no_events }) piece

-- An effect or a charging record stands behind the entry of a line of its epoch.
abbrev pub is_outcome : Entry → Bool
is_outcome (entry.Line of_line) = false
is_outcome (entry.Effect effect) = true
is_outcome (entry.Charge (charge.R slot row)) = true
is_outcome (entry.Charge (charge.O slot counters)) = false

abbrev pub BeginsOwn : List Entry → Type 0
BeginsOwn [] = Unit {0}
BeginsOwn (first ∷ later) = is_outcome first ≡ false

-- A piece is whole behind these lines: its lines are those of one epoch, and of its entries, which begin with no effect
-- and no charging record, as many are of lines; an open counter stands in the last piece alone.
pub record IsWhole (before : List Line) (last : Bool) (piece : List Text) : Type 0 where
  pub entries : List Entry
  pub are : AreEntries (report_texts piece) entries
  pub one : IsOneEpoch last (said_behind before piece)
  pub as_many : length (line_entries entries)
      ≡ length (said_behind before piece).lines + length (stop_noted (said_behind before piece).stop)
  pub begins : BeginsOwn entries
  pub opens : last ≡ false → opens_told entries ≡ []

-- so is each of them, behind the lines of those before it
abbrev pub AreWhole : List Line → List (List Text) → Type 0
AreWhole before [] = ⊥
AreWhole before (piece ∷ []) = IsWhole before true piece
AreWhole before (piece ∷ next ∷ later) =
    IsWhole before false piece × AreWhole (before ++ (said_behind before piece).lines) (next ∷ later)

-- Along, `yes` is said exactly where the pieces are whole, and joined are a lawful report of one trace.
abbrev pub YesAsJoined : Type 0
YesAsJoined =
    (setup : Setup) (texts : List Text) → ((text : List ℕ) × SaysYes setup texts text)
    ↔ (AreWhole [] (pieces_of texts) × Confirmed setup (joined (pieces_of texts)))

-- Where `no` is said of whole pieces, they aren't.
abbrev pub NoAsJoined : Type 0
NoAsJoined =
    (why : Bool) (setup : Setup) (texts : List Text) (text : List ℕ) → SaysNo why setup texts text
    → AreWhole [] (pieces_of texts) → ¬ Confirmed setup (joined (pieces_of texts))
