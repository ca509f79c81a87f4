-- What an audit finds of a lawful report without places.
use Rattle.std.specs.Prelude.{◌≡◌, ℕ, ◌+◌, ◌<◌, ◌^◌, ◌⊎◌, false, List, [], ◌∷◌, ◌++◌, length, map, All}
use Rattle.std.specs.Prelude.{Option, None, bytes_eq}
use Rattle.report_lines.specs.Text.{entry_text, shown}
use Rattle.report_lines.specs.declared.entry.Entry.{Entry}
use Rattle.trace_lines.specs.Input.{ended, input_of}
use Rattle.lawful_run.specs.Report.{Report, entries_of, report_text}
use Rattle.lawful_run.specs.Setup.{Setup, slices_of, solo}
use Rattle.lawful_run.specs.Trace.{IsReport}
use Rattle.audit_core.specs.Findings.{Finds}
use Rattle.audit_core.specs.Said.{marker, trace_from}
use Rattle.pc_outside.specs.Texts as texts
use Rattle.pc_outside.specs.Texts.{Text, texts_of}

-- the lines of its text, without places
abbrev pub lines_of : Report → List Text
lines_of report = map (λ (told : Entry). entry_text (shown false told)) (entries_of report)

-- Reports under one setup are held against another: against the same, or those of one thread against 64 slices with any
-- room and lanes.
abbrev pub AreHeld : Setup → Setup → Type 0
AreHeld under setup = (under ≡ setup) ⊎ ((under ≡ solo) × (slices_of setup ≡ 64))

-- A trace of fewer than 2^40 lines, none of which is the one that ends it, and a lawful report of it. The trace stops
-- at the first of the lines that is a bad one.
pub record IsOwnReport (under : Setup) (trace : List Text) (report : Report) : Type 0 where
  pub unmarked : All (λ (text : Text). bytes_eq text marker ≡ false) trace
  pub few : length trace + 2 < 2 ^ 40
  pub lawful : IsReport under (trace_from 1 0 trace) report

-- what an audit is given: the trace, and the report behind it
abbrev pub audited : List Text → Report → List Text
audited trace report = trace ++ marker ∷ lines_of report

-- It finds nothing to refute.
abbrev pub OwnReportIsConfirmed : Type 0
OwnReportIsConfirmed = (under setup : Setup) (trace : List Text) (report : Report) → AreHeld under setup
    → IsOwnReport under trace report → Finds setup (audited trace report) None

-- and nothing else
abbrev pub OwnReportIsNeverRefuted : Type 0
OwnReportIsNeverRefuted = (under setup : Setup) (trace : List Text) (report : Report) (found : Option ℕ)
    → AreHeld under setup → IsOwnReport under trace report → Finds setup (audited trace report) found → found ≡ None

-- Octets that end with a newline are a whole trace, and this is the text of a lawful report of it.
pub record IsOwnText (under : Setup) (octets text : List ℕ) : Type 0 where
  pub prefix : List ℕ
  pub whole : octets ≡ prefix ++ 10 ∷ []
  pub ends : (input_of octets).stop ≡ ended
  pub report : Report
  pub lawful : IsReport under (input_of octets) report
  pub written : text ≡ report_text false report

-- the octets that an audit is given
abbrev pub audited_octets : List ℕ → List ℕ → List ℕ
audited_octets octets text = octets ++ (marker ++ 10 ∷ text)

-- The same of octets: where an audit reads them whole.
abbrev pub OwnTextIsConfirmed : Type 0
OwnTextIsConfirmed = (under setup : Setup) (octets text : List ℕ) → AreHeld under setup
    → IsOwnText under octets text
    → (texts_of (audited_octets octets text)).stop ≡ texts.ended
    → Finds setup (texts_of (audited_octets octets text)).lines None

abbrev pub OwnTextIsNeverRefuted : Type 0
OwnTextIsNeverRefuted = (under setup : Setup) (octets text : List ℕ) (found : Option ℕ) → AreHeld under setup
    → IsOwnText under octets text → (texts_of (audited_octets octets text)).stop ≡ texts.ended
    → Finds setup (texts_of (audited_octets octets text)).lines found → found ≡ None
