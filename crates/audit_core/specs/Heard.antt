-- What was heard of the lines of an input.
use Rattle.std.specs.Prelude.{◌≡◌, ℕ, ◌+◌, Bool, true, false, List, [], ◌∷◌, ◌++◌, length, All, Option}
use Rattle.std.specs.Prelude.{None, Some, bytes_eq}
use Rattle.report_lines.specs.declared.entry.Entry.{Entry}
use Rattle.trace_lines.specs.Input.{after_lines}
use Rattle.trace_lines.specs.Line.{Line}
use Rattle.audit_core.specs.Setups.{input_with}
use Rattle.audit_core.specs.declared.setup.BadAt.{BadAt}
use Rattle.audit_core.specs.Said.{AreEntries, EndsAtNone, marker, trace_from}
use Rattle.pc_outside.specs.Texts.{Text}
use Rattle.audit_core.specs.declared.heard.Heard.{Heard}

-- a trace begins with lines that say these, and goes on from the least moment; or it has ended at a bad line
abbrev pub SaysTrace : List Line → Option BadAt → ℕ → List Text → Type 0
SaysTrace lines None least texts =
    (behind : List Text) → trace_from 1 0 (texts ++ behind)
    ≡ after_lines lines (trace_from (length lines + 1) least behind)
SaysTrace lines (Some at) least texts =
    (behind : List Text) → trace_from 1 0 (texts ++ behind) ≡ input_with lines (Some at)

-- the report so far has these entries, or a line that is none behind them
abbrev pub SaysReport : Bool → List Text → List Entry → Type 0
SaysReport false texts entries = AreEntries texts entries
SaysReport true texts entries = EndsAtNone texts entries

-- lines of a trace, and behind the one that says so those of its report
abbrev pub with_report : Bool → List Text → List Text
with_report false report = []
with_report true report = marker ∷ report

-- these lines were heard
pub record HasHeard (heard : Heard) (texts : List Text) : Type 0 where
  pub trace : List Text
  pub report : List Text
  pub parts : texts ≡ trace ++ with_report heard.in_report report
  pub before : All (λ text. bytes_eq text marker ≡ false) trace
  pub unopened : heard.in_report ≡ false → report ≡ []
  pub says_trace : SaysTrace heard.lines.items heard.bad heard.least trace
  pub says_report : SaysReport heard.outside report heard.entries.items

-- the trace stops at this line, and nothing else is new
pub record StopsAt (old new : Heard) (at : BadAt) : Type 0 where
  pub bad : new.bad ≡ Some at
  pub lines : new.lines ≡ old.lines
  pub entries : new.entries ≡ old.entries
  pub outside : new.outside ≡ old.outside
  pub in_report : new.in_report ≡ old.in_report
