-- A note behind the lines of an epoch.
use Rattle.std.specs.Prelude.{ℕ, ◌+◌, List, [], ◌∷◌, ◌++◌, length}
use Rattle.demux.specs.Trace.{Meaning, note}
use Rattle.report_lines.specs.declared.entry.LineEntry.{LineEntry}
use Rattle.report_lines.specs.declared.entry.LineEntry.TheVariants as line
use Rattle.lawful_run.specs.Merging.{Histories}
use Rattle.lawful_run.specs.Report.{EpochReport}
use Rattle.lawful_run.specs.Run.{IsEpochRun}
use Rattle.lawful_run.specs.Setup.{Setup}

-- its entry is the last of the lines' entries
abbrev pub note_entry : ℕ → List ℕ → LineEntry
note_entry n text = line.N (record { line = n; note = text })

abbrev pub with_note : EpochReport → (n : ℕ) → (text : List ℕ) → EpochReport
with_note told n text = record told { lines = told.lines ++ note_entry n text ∷ [] }

-- It changes nothing else that is told.
abbrev pub NoteIsLawful : Type 0
NoteIsLawful = (setup : Setup) (slots first : ℕ) (before : Histories) (made : List Meaning) (told : EpochReport)
    (text : List ℕ) → IsEpochRun setup slots first before made told
    → IsEpochRun setup slots first before (made ++ note text ∷ []) (with_note told (first + length made) text)
