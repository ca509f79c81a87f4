-- What an audit finds.
use Rattle.std.specs.Prelude.{◌≡◌, ℕ, ◌+◌, ◌≤◌, ◌⊎◌, List, [], ◌∷◌, ◌++◌, length, Option}
use Rattle.std.specs.Prelude.{None, Some, codes}
use Rattle.pc_outside.specs.Limits.{newline}
use Rattle.demux.specs.Trace.{book_of}
use Rattle.report_lines.specs.declared.entry.Entry.{Entry}
use Rattle.trace_lines.specs.Input.{Input}
use Rattle.lawful_run.specs.Setup.{Setup, slices_of}
use Rattle.lawful_run.specs.Trace.{epochs_told}
use Rattle.audit_core.specs.Lawful.{IsLawful}
use Rattle.audit_core.specs.Sentences.{IsFirstBroken}
use Rattle.audit_core.specs.Said.{AreEntries, HasNoEntry, report_texts, trace_said}
use Rattle.pc_outside.specs.Texts.{Text}

-- entries are those of a lawful run of a trace · this is the first sentence of the lawful run that they break
abbrev pub IsOf : Setup → Input → List Entry → Type 0
IsOf setup trace entries = IsLawful setup (length (book_of trace.lines)) (epochs_told (slices_of setup) trace) entries

abbrev pub Breaks : Setup → Input → List Entry → ℕ → Type 0
Breaks setup trace entries k =
    IsFirstBroken setup (length (book_of trace.lines)) (epochs_told (slices_of setup) trace) entries k
    × (1 ≤ k)
    × (k ≤ 6)

-- The report is a lawful one of the trace under this setup.
pub record Confirmed (setup : Setup) (texts : List Text) : Type 0 where
  pub entries : List Entry
  pub are : AreEntries (report_texts texts) entries
  pub lawful : IsOf setup (trace_said texts) entries

-- It is refuted: its lines are entries, and this is the first sentence that they break.
pub record Refuted (setup : Setup) (texts : List Text) (k : ℕ) : Type 0 where
  pub entries : List Entry
  pub are : AreEntries (report_texts texts) entries
  pub broken : Breaks setup (trace_said texts) entries k

-- What is found: nothing to refute, or the number of what refutes it, where 0 is a line that is no entry.
abbrev pub Finds : Setup → List Text → Option ℕ → Type 0
Finds setup texts None = Confirmed setup texts
Finds setup texts (Some k) = ((k ≡ 0) × HasNoEntry (report_texts texts)) ⊎ Refuted setup texts k

-- what is written of it
abbrev pub finding_text : Option ℕ → List ℕ
finding_text None = codes "yes" ++ newline ∷ []
finding_text (Some k) = codes "no " ++ (48 + k) ∷ newline ∷ []
