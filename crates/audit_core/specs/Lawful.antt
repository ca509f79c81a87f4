-- The six sentences together are the lawful run.
use Rattle.std.specs.Prelude.{◌≡◌, ℕ, ◌<◌, ◌↔◌, List, length, All}
use Rattle.demux.specs.Trace.{Meaning}
use Rattle.report_lines.specs.declared.entry.Entry.{Entry}
use Rattle.lawful_run.specs.Setup.{Setup}
use Rattle.lawful_run.specs.Report.{Report, entries_of}
use Rattle.lawful_run.specs.Run.{IsRun}
use Rattle.lawful_run.specs.Trace.{epochs_told}
use Rattle.trace_lines.specs.Input.{Input}
use Rattle.audit_core.specs.Sentences.{Sentence}

-- each epoch has a line
abbrev pub HaveLines : List (List Meaning) → Type 0
HaveLines made = All (λ (lines : List Meaning). 0 < length lines) made

-- the entries are those of a lawful run
abbrev pub IsLawful : Setup → ℕ → List (List Meaning) → List Entry → Type 0
IsLawful setup slots made entries = (report : Report) × IsRun setup slots made report × (entries ≡ entries_of report)

abbrev pub AllSentences : Setup → ℕ → List (List Meaning) → List Entry → Type 0
AllSentences setup slots made entries = (k : ℕ) → Sentence setup slots made entries k

abbrev pub SentencesAreTheRun : Type 0
SentencesAreTheRun =
    (setup : Setup) (slots : ℕ) (made : List (List Meaning)) (entries : List Entry) → HaveLines made
    → AllSentences setup slots made entries ↔ IsLawful setup slots made entries

-- so it is in what the lines of an input mean
abbrev pub TracesHaveLines : Type 0
TracesHaveLines = (slices : ℕ) (input : Input) → HaveLines (epochs_told slices input)
