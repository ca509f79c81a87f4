-- What was heard, one line more.
use Rattle.std.proofs.Common.{◌≡◌, ℕ, ◌+◌, Bool, true, false, List, [], ◌∷◌, ◌++◌, length, map, Option, None, Some, Result, Ok, Err, bytes_eq, is_some, OnOk, ◌⊎◌, inl, inr, refl, sym, ap, ◌∙◌, subst, arith, append_assoc, append-nil}
use Rattle.std.proofs.lemmas.List.Elements.{All-push, Contains-append_right}
use Rattle.std.specs.List.{Contains}
use Rattle.std.specs.declared.alloc.AllocError.{AllocError}
use Rattle.std.specs.Prelude.{alloc_error}
use Rattle.wire_octets.specs.Memory.{OrNoMemory}
use Rattle.report_lines.specs.Ranges.{IsEntry}
use Rattle.report_lines.specs.Text.{entry_text}
use Rattle.report_lines.specs.declared.entry.Entry.{Entry}
use Rattle.trace_lines.specs.Input.{ended}
use Rattle.trace_lines.specs.Line.{Line}
use Rattle.trace_lines.specs.Meaning.{line_meaning}
use Rattle.trace_lines.specs.declared.bad.LineBad.{LineBad}
use Rattle.trace_lines.specs.declared.bad.LineBad.TheVariants as whys
use Rattle.audit_core.specs.Setups.{input_with}
use Rattle.audit_core.specs.declared.setup.BadAt.{BadAt}
use Rattle.audit_core.specs.Heard.{HasHeard, SaysReport, SaysTrace, StopsAt, with_report}
use Rattle.audit_core.specs.Said.{AreEntries, EndsAtNone, HasNoEntry, marker, report_texts, trace_from, trace_said, trace_texts}
use Rattle.pc_outside.specs.Texts.{Text}
use Rattle.audit_core.specs.declared.heard.Heard.{Heard}
use Rattle.audit_core.proofs.SaidLemmas.{all_trace, next_bad, next_line, no_report, report_behind, trace_before}

-- what a trace says, where one line more is passed over behind a bad one
pub passed_over : (lines : List Line) (at : BadAt) (least : ℕ) (texts : List Text) (text : Text)
    → SaysTrace lines (Some at) least texts → SaysTrace lines (Some at) least (texts ++ text ∷ [])
passed_over lines at least texts text says behind =
    ap (trace_from 1 0) (append_assoc texts (text ∷ []) behind) ∙ says (text ∷ behind)

-- and a report, behind a line that is no entry
pub still_outside : (texts : List Text) (entries : List Entry) (text : Text) → EndsAtNone texts entries
    → EndsAtNone (texts ++ text ∷ []) entries
still_outside texts entries text ends = record {
  text = ends.text;
  later = ends.later ++ text ∷ [];
  parts = ap (λ t. t ++ text ∷ []) ends.parts
      ∙ append_assoc (map entry_text entries) (ends.text ∷ ends.later) (text ∷ []);
  ranges = ends.ranges;
  none = ends.none;
}

pub now_outside : (texts : List Text) (entries : List Entry) (text : Text) → AreEntries texts entries
    → ((entry : Entry) → IsEntry entry → text ≡ entry_text entry → ⊥) → EndsAtNone (texts ++ text ∷ []) entries
now_outside texts entries text are none = record {
  text = text;
  later = [];
  parts = ap (λ t. t ++ text ∷ []) are.same;
  ranges = are.ranges;
  none = none;
}

-- such a line is one of the report's
pub has_none : (texts : List Text) (entries : List Entry) → EndsAtNone texts entries → HasNoEntry texts
has_none texts entries ends = record {
  text = ends.text;
  stands = subst (λ its. Contains its ends.text) (sym ends.parts)
      (Contains-append_right (map entry_text entries) (ends.text ∷ ends.later) ends.text (0, omega arith, refl));
  none = ends.none;
}

-- one line more stands in the trace, or in the report
pub in_trace : (texts trace report : List Text) (text : Text) (opened : Bool) → opened ≡ false
    → texts ≡ trace ++ with_report opened report
    → texts ++ text ∷ [] ≡ (trace ++ text ∷ []) ++ with_report opened report
in_trace texts trace report text true closed parts = cc
in_trace texts trace report text false closed parts =
    ap (λ t. t ++ text ∷ []) (parts ∙ append-nil trace) ∙ sym (append-nil (trace ++ text ∷ []))

pub in_report : (texts trace report : List Text) (text : Text) (opened : Bool) → opened ≡ true
    → texts ≡ trace ++ with_report opened report
    → texts ++ text ∷ [] ≡ trace ++ with_report opened (report ++ text ∷ [])
in_report texts trace report text false open_ parts = cc
in_report texts trace report text true open_ parts =
    ap (λ t. t ++ text ∷ []) parts ∙ append_assoc trace (marker ∷ report) (text ∷ [])

-- the line before the report comes
pub opens_report : (texts trace report : List Text) (text : Text) (opened : Bool) → opened ≡ false → text ≡ marker
    → report ≡ [] → texts ≡ trace ++ with_report opened report
    → texts ++ text ∷ [] ≡ trace ++ with_report true report
opens_report texts trace report text true closed is none parts = cc
opens_report texts trace report text false closed is none parts =
    ap (λ t. t ++ text ∷ []) (parts ∙ append-nil trace)
    ∙ ap (λ t. trace ++ t ∷ []) is ∙ ap (λ r. trace ++ marker ∷ r) (sym none)

-- what was heard is what the lines say
pub trace_heard : (heard : Heard) (texts : List Text) → (hears : HasHeard heard texts)
    → trace_texts texts ≡ hears.trace
trace_heard heard texts hears = go heard.in_report refl
  where
    go : (opened : Bool) → opened ≡ heard.in_report → trace_texts texts ≡ hears.trace
    go false is = ap trace_texts (hears.parts ∙ ap (λ b. hears.trace ++ with_report b hears.report) (sym is)
        ∙ append-nil hears.trace) ∙ all_trace hears.trace hears.before
    go true is = ap trace_texts (hears.parts ∙ ap (λ b. hears.trace ++ with_report b hears.report) (sym is))
        ∙ trace_before hears.trace hears.report hears.before

pub report_heard : (heard : Heard) (texts : List Text) → (hears : HasHeard heard texts)
    → report_texts texts ≡ hears.report
report_heard heard texts hears = go heard.in_report refl
  where
    go : (opened : Bool) → opened ≡ heard.in_report → report_texts texts ≡ hears.report
    go false is = ap report_texts (hears.parts ∙ ap (λ b. hears.trace ++ with_report b hears.report) (sym is)
        ∙ append-nil hears.trace) ∙ no_report hears.trace hears.before ∙ sym (hears.unopened (sym is))
    go true is = ap report_texts (hears.parts ∙ ap (λ b. hears.trace ++ with_report b hears.report) (sym is))
        ∙ report_behind hears.trace hears.report hears.before

pub said_whole : (lines : List Line) (at : Option BadAt) (least : ℕ) (texts : List Text) → SaysTrace lines at least texts
    → trace_from 1 0 texts ≡ input_with lines at
said_whole lines None least texts says =
    ap (trace_from 1 0) (sym (append-nil texts)) ∙ says []
    ∙ ap (λ its. record { lines = its; stop = ended }) (append-nil lines)
said_whole lines (Some at) least texts says = ap (trace_from 1 0) (sym (append-nil texts)) ∙ says []

pub said_heard : (heard : Heard) (texts : List Text) → (hears : HasHeard heard texts)
    → trace_said texts ≡ input_with heard.lines.items heard.bad
said_heard heard texts hears =
    ap (trace_from 1 0) (trace_heard heard texts hears)
    ∙ said_whole heard.lines.items heard.bad heard.least hears.trace hears.says_trace

-- the entries heard are the report's, unless one of its lines is none
pub entries_heard : (heard : Heard) (texts : List Text) → (hears : HasHeard heard texts) → heard.outside ≡ false
    → AreEntries (report_texts texts) heard.entries.items
entries_heard heard texts hears inside =
    subst (λ report. AreEntries report heard.entries.items) (sym (report_heard heard texts hears))
    (subst (λ b. SaysReport b hears.report heard.entries.items) inside hears.says_report)

-- one that is none stands behind those heard
pub none_heard : (heard : Heard) (texts : List Text) → (hears : HasHeard heard texts) → heard.outside ≡ true
    → EndsAtNone (report_texts texts) heard.entries.items
none_heard heard texts hears outside =
    subst (λ report. EndsAtNone report heard.entries.items) (sym (report_heard heard texts hears))
    (subst (λ b. SaysReport b hears.report heard.entries.items) outside hears.says_report)

pub outside_heard : (heard : Heard) (texts : List Text) → (hears : HasHeard heard texts) → heard.outside ≡ true
    → HasNoEntry (report_texts texts)
outside_heard heard texts hears outside =
    has_none (report_texts texts) heard.entries.items (none_heard heard texts hears outside)

-- One line more was heard: of the report, of the trace, or the one between them.
pub report_more : (old new : Heard) (texts : List Text) (text : Text) → old.in_report ≡ true
    → new.in_report ≡ old.in_report → new.lines ≡ old.lines → new.bad ≡ old.bad → new.least ≡ old.least
    → ((report : List Text) → SaysReport old.outside report old.entries.items
    → SaysReport new.outside (report ++ text ∷ []) new.entries.items)
    → HasHeard old texts → HasHeard new (texts ++ text ∷ [])
report_more old new texts text opened still lines bad_one least goes hears = record {
  trace = hears.trace;
  report = hears.report ++ text ∷ [];
  parts = in_report texts hears.trace hears.report text old.in_report opened hears.parts
      ∙ ap (λ b. hears.trace ++ with_report b (hears.report ++ text ∷ [])) (sym still);
  before = hears.before;
  unopened = λ closed. let clash : true ≡ false = sym opened ∙ sym still ∙ closed in cc;
  says_trace = rw (lines, bad_one, least) hears.says_trace;
  says_report = goes hears.report hears.says_report;
}

pub trace_more : (old new : Heard) (texts : List Text) (text : Text) → old.in_report ≡ false
    → bytes_eq text marker ≡ false
    → new.in_report ≡ old.in_report → new.outside ≡ old.outside → new.entries ≡ old.entries
    → ((trace : List Text) → SaysTrace old.lines.items old.bad old.least trace
    → SaysTrace new.lines.items new.bad new.least (trace ++ text ∷ []))
    → HasHeard old texts → HasHeard new (texts ++ text ∷ [])
trace_more old new texts text closed other still outside entries goes hears = record {
  trace = hears.trace ++ text ∷ [];
  report = hears.report;
  parts = in_trace texts hears.trace hears.report text old.in_report closed hears.parts
      ∙ ap (λ b. (hears.trace ++ text ∷ []) ++ with_report b hears.report) (sym still);
  before = All-push (λ t. bytes_eq t marker ≡ false) hears.trace text hears.before other;
  unopened = λ is. hears.unopened closed;
  says_trace = goes hears.trace hears.says_trace;
  says_report = rw (outside, entries) hears.says_report;
}

-- A line of the trace is passed over behind a bad one, is a line, or is bad.
pub says_over : (lines : List Line) (at : Option BadAt) (least : ℕ) (trace : List Text) (text : Text)
    → is_some at ≡ true → SaysTrace lines at least trace → SaysTrace lines at least (trace ++ text ∷ [])
says_over lines None least trace text some says = cc
says_over lines (Some at) least trace text some says = passed_over lines at least trace text says

pub says_line : (lines : List Line) (at : Option BadAt) (least number now : ℕ) (trace : List Text) (text : Text)
    (line : Line)
    → is_some at ≡ false → number ≡ length lines → line_meaning least (number + 1) text ≡ Ok line → now ≡ line.moment
    → SaysTrace lines at least trace → SaysTrace (lines ++ line ∷ []) at now (trace ++ text ∷ [])
says_line lines None least number now trace text line none counted means is says =
    rw is (next_line lines least trace text line says (rw (counted) at means))
says_line lines (Some at) least number now trace text line none counted means is says = cc

pub says_bad : (lines : List Line) (at : Option BadAt) (least now : ℕ) (trace : List Text) (text : Text)
    (why : LineBad)
    → is_some at ≡ false → line_meaning least (length lines + 1) text ≡ Err why
    → SaysTrace lines at least trace
    → SaysTrace lines (Some (record { number = length lines + 1; why = why })) now (trace ++ text ∷ [])
says_bad lines None least now trace text why none means says = next_bad lines least trace text why says means
says_bad lines (Some at) least now trace text why none means says = cc

-- what isn't read is no entry
pub none_read : (read : Option Entry) (text : Text) → read ≡ None
    → ((entry : Entry) → IsEntry entry → text ≡ entry_text entry → OrNoMemory (Ok read) (Ok (Some entry)) alloc_error)
    → (entry : Entry) → IsEntry entry → text ≡ entry_text entry → ⊥
none_read None text none only entry is same = by_cases (only entry is same)
  where
    by_cases : OrNoMemory (Ok None) (Ok (Some entry)) alloc_error → ⊥
    by_cases (inl answer) = cc
    by_cases (inr wanting) = cc
none_read (Some other) text none only entry is same = cc

-- the trace stops at a line that is refused, unless memory ran out
pub bad_heard : (old new : Heard) (texts : List Text) (text : Text) (number : ℕ) (why : LineBad)
    (stopped : Result Unit AllocError)
    → is_some old.bad ≡ false → old.in_report ≡ false → bytes_eq text marker ≡ false
    → number ≡ length old.lines.items
    → (why ≡ whys.NoMemory) ⊎ (line_meaning old.least (number + 1) text ≡ Err why)
    → OnOk stopped (why ≡ whys.NoMemory → ⊥)
    → OnOk stopped (StopsAt old new (record { number = number + 1; why = why }))
    → HasHeard old texts → OnOk stopped (HasHeard new (texts ++ text ∷ []))
bad_heard old new texts text number why (Err wanting) open_ closed other counted refused never stops hears = tt
bad_heard old new texts text number why (Ok done) open_ closed other counted (inl wanting) never stops hears =
    absurd (never wanting)
bad_heard old new texts text number why (Ok done) open_ closed other counted (inr means) never stops hears =
    trace_more old new texts text closed other stops.in_report stops.outside stops.entries
    (λ trace says. rw (stops.lines, stops.bad, counted)
    (says_bad old.lines.items old.bad old.least new.least trace text why open_ (rw counted at means) says)) hears
