-- Where a report is refuted, and what is told of it.
use Rattle.std.specs.Prelude.{◌≡◌, ℕ, ◌+◌, ◌⊎◌, Bool, true, false, Option, None, Some, List, ◌∷◌, ◌++◌, length}
use Rattle.std.specs.Prelude.{codes, decimal}
use Rattle.demux.specs.Trace.{book_of}
use Rattle.report_lines.specs.declared.entry.Entry.{Entry}
use Rattle.lawful_run.specs.Setup.{Setup, slices_of}
use Rattle.lawful_run.specs.Trace.{epochs_told}
use Rattle.audit_core.specs.Said.{AreEntries, EndsAtNone, report_texts, trace_said}
use Rattle.pc_outside.specs.Texts.{Text}
use Rattle.audit_core.specs.Findings.{Breaks, Confirmed, finding_text}
use Rattle.audit_core.specs.Telling.{break_text, dash}
use Rattle.audit_core.specs.Why.{IsBreak}
use Rattle.audit_core.specs.Ranks.{number_of}
use Rattle.audit_core.specs.declared.sentence.Refutation.{Refutation}
use Rattle.audit_core.specs.declared.telling.Break.{Break}

-- the break of a report whose line of this number is no entry
abbrev pub at_report : ℕ → Break
at_report number = record {
  line = None;
  slot = None;
  entry = (codes "line" ++ 32 ∷ decimal number) ++ codes " of the report";
  due = dash;
}

-- The first line of a report that is no entry · the break of the first sentence that its entries break.
pub record NoEntryAt (texts : List Text) (told : Break) : Type 0 where
  pub entries : List Entry
  pub ends : EndsAtNone (report_texts texts) entries
  pub is : told ≡ at_report (length entries + 1)

pub record BrokenAt (setup : Setup) (texts : List Text) (k : ℕ) (told : Break) : Type 0 where
  pub entries : List Entry
  pub are : AreEntries (report_texts texts) entries
  pub breaks : Breaks setup (trace_said texts) entries k
  pub is : IsBreak setup (length (book_of (trace_said texts).lines)) (epochs_told (slices_of setup) (trace_said texts))
      entries k told

abbrev pub RefutedAt : Setup → List Text → ℕ → Break → Type 0
RefutedAt setup texts k told = ((k ≡ 0) × NoEntryAt texts told) ⊎ BrokenAt setup texts k told

-- what is found, and where
abbrev pub FindsAt : Setup → List Text → Option Refutation → Type 0
FindsAt setup texts None = Confirmed setup texts
FindsAt setup texts (Some found) = RefutedAt setup texts (number_of found.sentence) found.place

-- the number of what refutes a report
abbrev pub number_found : Option Refutation → Option ℕ
number_found None = None
number_found (Some found) = Some (number_of found.sentence)

-- the text of a finding, and behind it, if that is asked for, that of the place at which the report is refuted
abbrev pub told_text : Bool → Option Refutation → List ℕ
told_text why None = finding_text None
told_text false (Some found) = finding_text (Some (number_of found.sentence))
told_text true (Some found) = finding_text (Some (number_of found.sentence)) ++ break_text found.place

-- What is written of a report that this refutes: with the place, where that is asked for.
abbrev pub SaysRefuted : Bool → Setup → List Text → ℕ → List ℕ → Type 0
SaysRefuted false setup texts k text = text ≡ finding_text (Some k)
SaysRefuted true setup texts k text =
    (told : Break) × RefutedAt setup texts k told × (text ≡ finding_text (Some k) ++ break_text told)

-- what is written of a finding
abbrev pub SaysFinding : Bool → Setup → List Text → Option ℕ → List ℕ → Type 0
SaysFinding why setup texts None text = text ≡ finding_text None
SaysFinding why setup texts (Some k) text = SaysRefuted why setup texts k text
