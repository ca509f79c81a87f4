-- One line more of a trace and its report.
use Rattle.std.proofs.Common.{◌≡◌, ℕ, Bool, true, false, OnOk, Result, Ok, Err, Option, Some, None, List, [], ◌∷◌, ◌++◌, length, map, find, bytes_eq, refl, sym, ap, ◌∙◌, subst, append_assoc}
use Rattle.std.proofs.lemmas.List.Elements.{All-nil, All-push}
use Rattle.demux.specs.Trace.{Meaning}
use Rattle.report_lines.specs.Text.{entry_text}
use Rattle.report_lines.specs.declared.entry.Entry.{Entry}
use Rattle.trace_lines.specs.Line.{Line}
use Rattle.lawful_run.specs.Trace.{epochs_told}
use Rattle.audit_core.specs.Belonging.{HasOutside, HasTaken, Placed, epoch_from, ends_from, is_outside_entry, placed_from}
use Rattle.audit_core.specs.Entries.{all_lines}
use Rattle.audit_core.specs.Evidence.{HasHeardOf, IsWhole, TracesSo}
use Rattle.audit_core.specs.Heard.{SaysReport, with_report}
use Rattle.audit_core.specs.Said.{marker, trace_from, trace_said, trace_texts}
use Rattle.audit_core.specs.Setups.{IsSetup, input_with}
use Rattle.pc_outside.specs.Texts.{Text}
use Rattle.audit_core.specs.TraceTaken.{HasTakenTrace, IsClosed, TakesLines}
use Rattle.audit_core.specs.declared.evidence.Evidence.{Evidence}
use Rattle.audit_core.specs.declared.report.Report.{Report}
use Rattle.audit_core.specs.declared.setup.BadAt.{BadAt}
use Rattle.audit_core.proofs.HeardLemmas.{in_trace, opens_report, said_whole}
use Rattle.audit_core.proofs.SaidLemmas.{trace_before}

-- nothing was heard yet
pub heard_none : (new : Evidence) → IsSetup new.setup → new.in_report ≡ false
    → HasTakenTrace new.setup.slices [] new.trace
    → ((made : List (List Meaning)) → HasTaken made [] new.report) → HasHeardOf new []
heard_none new setup closed trace report = record {
  setup_is = setup;
  trace_texts = [];
  report_texts = [];
  parts = subst (λ b. [] ≡ [] ++ with_report b []) (sym closed) refl;
  before = All-nil (λ text. bytes_eq text marker ≡ false);
  unopened = λ is. refl;
  traces = subst (λ b. TracesSo b new []) (sym closed) trace;
  reports = report (epochs_told new.setup.slices (trace_said []));
}

-- a report without entries says nothing of the trace
no_texts : (none : Bool) (entries : List Entry) → SaysReport none [] entries → entries ≡ []
no_texts false [] says = refl
no_texts false (e ∷ entries) says = let no = says.same in absurd (cc)
no_texts true entries ends = absurd (nothing entries ends.text ends.later ends.parts)
  where
    nothing : (entries : List Entry) (text : Text) (later : List Text) → [] ≡ map entry_text entries ++ text ∷ later → ⊥
    nothing [] text later parts = cc
    nothing (e ∷ entries) text later parts = cc

none_outside : (octets : List ℕ) (count : ℕ) (entries : List Entry) (at : Option ℕ) (other : ℕ) → entries ≡ []
    → HasOutside octets count entries at → HasOutside octets other entries at
none_outside octets count entries None other none has =
    ap (find (is_outside_entry other)) none
none_outside octets count entries (Some at) other none has =
    let found : None ≡ Some has.0 = sym (ap (find (is_outside_entry count)) none) ∙ has.2 in
    absurd (cc)

any_made : (made other : List (List Meaning)) (report : Report) → HasTaken made [] report → HasTaken other [] report
any_made made other report taken =
    let none : taken.entries ≡ [] = no_texts report.none taken.entries taken.says in
    record {
      entries = taken.entries;
      says = taken.says;
      count = taken.count;
      kept = taken.kept;
      follow = taken.follow;
      epochs = taken.epochs
          ∙ ap (λ es. map (λ (p : Placed). p.epoch) (placed_from made 0 0 es)) none
          ∙ sym (ap (λ es. map (λ (p : Placed). p.epoch) (placed_from other 0 0 es)) none);
      each = taken.each;
      goes_on = taken.goes_on ∙ ap (epoch_from made 0) none ∙ sym (ap (epoch_from other 0) none);
      outside = none_outside report.texts (length (all_lines made)) taken.entries report.outside
          (length (all_lines other)) none taken.outside;
      few = taken.few;
    }

module _ (old : Evidence) (texts : List Text) (text : Text) (hears : HasHeardOf old texts) (new : Evidence)
    (setup_same : new.setup ≡ old.setup) where
  setup_new : IsSetup new.setup
  setup_new = subst IsSetup (sym setup_same) hears.setup_is

  -- a line of the report
  module _ (opened : old.in_report ≡ true) where
    whole : IsWhole old hears.trace_texts
    whole = subst (λ b. TracesSo b old hears.trace_texts) opened hears.traces

    parts_are : texts ≡ hears.trace_texts ++ marker ∷ hears.report_texts
    parts_are = subst (λ b. texts ≡ hears.trace_texts ++ with_report b hears.report_texts) opened hears.parts

    parts_new : texts ++ text ∷ [] ≡ hears.trace_texts ++ marker ∷ (hears.report_texts ++ text ∷ [])
    parts_new =
        ap (λ t. t ++ text ∷ []) parts_are ∙ append_assoc hears.trace_texts (marker ∷ hears.report_texts) (text ∷ [])

    said_same : trace_said (texts ++ text ∷ []) ≡ trace_said texts
    said_same =
        ap (trace_from 1 0) (ap trace_texts parts_new
        ∙ trace_before hears.trace_texts (hears.report_texts ++ text ∷ []) hears.before
        ∙ sym (trace_before hears.trace_texts hears.report_texts hears.before)
        ∙ sym (ap trace_texts parts_are))

    said_closed : trace_said texts ≡ trace_said (hears.trace_texts ++ marker ∷ [])
    said_closed =
        ap (trace_from 1 0) (ap trace_texts parts_are
        ∙ trace_before hears.trace_texts hears.report_texts hears.before
        ∙ sym (trace_before hears.trace_texts [] hears.before))

    pub ends_are : old.trace.ends.items ≡ ends_from 0 (epochs_told old.setup.slices (trace_said texts))
    ends_are =
        whole.closed.ends
        ∙ ap (λ input. ends_from 0 (epochs_told old.setup.slices input)) (sym (said_closed ∙ whole.says))

    pub heard_report : new.in_report ≡ true → new.trace ≡ old.trace
        → HasTaken (epochs_told old.setup.slices (trace_said texts)) (hears.report_texts ++ text ∷ []) new.report
        → HasHeardOf new (texts ++ text ∷ [])
    heard_report still trace_same taken = record {
      setup_is = setup_new;
      trace_texts = hears.trace_texts;
      report_texts = hears.report_texts ++ text ∷ [];
      parts = subst (λ b. texts ++ text ∷ [] ≡ hears.trace_texts ++ with_report b (hears.report_texts ++ text ∷ []))
          (sym still) parts_new;
      before = hears.before;
      unopened = λ closed. let no : true ≡ false = sym still ∙ closed in absurd (cc);
      traces = subst (λ b. TracesSo b new hears.trace_texts) (sym still) (record {
        lines = whole.lines;
        stop = whole.stop;
        says = whole.says;
        closed = subst (λ t. IsClosed t new.setup.slices whole.lines whole.stop) (sym trace_same)
            (subst (λ s. IsClosed old.trace s.slices whole.lines whole.stop) (sym setup_same) whole.closed);
      });
      reports = subst (λ s. HasTaken (epochs_told s.slices (trace_said (texts ++ text ∷ [])))
          (hears.report_texts ++ text ∷ []) new.report) (sym setup_same)
          (subst (λ input. HasTaken (epochs_told old.setup.slices input) (hears.report_texts ++ text ∷ []) new.report)
          (sym said_same) taken);
    }

  module _ (closed : old.in_report ≡ false) where
    none_yet : hears.report_texts ≡ []
    none_yet = hears.unopened closed

    nothing_taken : (made : List (List Meaning)) → HasTaken made [] old.report
    nothing_taken made =
        any_made (epochs_told old.setup.slices (trace_said texts)) made old.report
        (subst (λ t. HasTaken (epochs_told old.setup.slices (trace_said texts)) t old.report) none_yet hears.reports)

    pub trace_open : HasTakenTrace old.setup.slices hears.trace_texts old.trace
    trace_open = subst (λ b. TracesSo b old hears.trace_texts) closed hears.traces

    -- the line before the report
    pub heard_marker : text ≡ marker → new.in_report ≡ true → new.report ≡ old.report
        → ((slices : ℕ) (done : List Line) (stop : Option BadAt) → TakesLines old.trace slices done stop
        → IsClosed new.trace slices done stop)
        → HasHeardOf new (texts ++ text ∷ [])
    heard_marker is opened report_same closes =
        let parts_new : texts ++ text ∷ [] ≡ hears.trace_texts ++ marker ∷ hears.report_texts =
        opens_report texts hears.trace_texts hears.report_texts text old.in_report closed is none_yet hears.parts in
        record {
          setup_is = setup_new;
          trace_texts = hears.trace_texts;
          report_texts = hears.report_texts;
          parts = subst (λ b. texts ++ text ∷ [] ≡ hears.trace_texts ++ with_report b hears.report_texts) (sym opened)
              parts_new;
          before = hears.before;
          unopened = λ still. none_yet;
          traces = subst (λ b. TracesSo b new hears.trace_texts) (sym opened) (record {
            lines = trace_open.lines;
            stop = trace_open.stop;
            says = ap (trace_from 1 0) (trace_before hears.trace_texts [] hears.before)
                ∙ said_whole_of trace_open;
            closed = subst (λ s. IsClosed new.trace s.slices trace_open.lines trace_open.stop) (sym setup_same)
                (closes old.setup.slices trace_open.lines trace_open.stop trace_open.takes);
          });
          reports = subst (λ r. HasTaken (epochs_told new.setup.slices (trace_said (texts ++ text ∷ [])))
              hears.report_texts r) (sym report_same)
              (subst (λ t. HasTaken (epochs_told new.setup.slices (trace_said (texts ++ text ∷ []))) t old.report)
              (sym none_yet) (nothing_taken (epochs_told new.setup.slices (trace_said (texts ++ text ∷ [])))));
        }
      where
        said_whole_of : (taken : HasTakenTrace old.setup.slices hears.trace_texts old.trace)
            → trace_from 1 0 hears.trace_texts ≡ input_with taken.lines taken.stop
        said_whole_of taken = said_whole taken.lines taken.stop old.trace.least hears.trace_texts taken.says

    -- a line of the trace
    pub heard_trace : bytes_eq text marker ≡ false → new.in_report ≡ false → new.report ≡ old.report
        → HasTakenTrace old.setup.slices (hears.trace_texts ++ text ∷ []) new.trace
        → HasHeardOf new (texts ++ text ∷ [])
    heard_trace other still report_same taken = record {
      setup_is = setup_new;
      trace_texts = hears.trace_texts ++ text ∷ [];
      report_texts = hears.report_texts;
      parts = subst (λ b. texts ++ text ∷ []
          ≡ (hears.trace_texts ++ text ∷ []) ++ with_report b hears.report_texts) (closed ∙ sym still)
          (in_trace texts hears.trace_texts hears.report_texts text old.in_report closed hears.parts);
      before = All-push (λ t. bytes_eq t marker ≡ false) hears.trace_texts text hears.before other;
      unopened = λ is. none_yet;
      traces = subst (λ b. TracesSo b new (hears.trace_texts ++ text ∷ [])) (sym still)
          (subst (λ s. HasTakenTrace s.slices (hears.trace_texts ++ text ∷ []) new.trace) (sym setup_same) taken);
      reports = subst (λ r. HasTaken (epochs_told new.setup.slices (trace_said (texts ++ text ∷ [])))
          hears.report_texts r) (sym report_same)
          (subst (λ t. HasTaken (epochs_told new.setup.slices (trace_said (texts ++ text ∷ []))) t old.report)
          (sym none_yet) (nothing_taken (epochs_told new.setup.slices (trace_said (texts ++ text ∷ [])))));
    }

pub heard_marker_ok : {X E : Type 0} (result : Result X E) (old : Evidence) (texts : List Text) (text : Text)
    (hears : HasHeardOf old texts) (new : Evidence) → new.setup ≡ old.setup → old.in_report ≡ false → text ≡ marker
    → new.in_report ≡ true → new.report ≡ old.report
    → ((slices : ℕ) (done : List Line) (stop : Option BadAt) → TakesLines old.trace slices done stop
    → OnOk result (IsClosed new.trace slices done stop))
    → OnOk result (HasHeardOf new (texts ++ text ∷ []))
heard_marker_ok (Ok x) old texts text hears new setup_same closed is opened report_same closes =
    heard_marker old texts text hears new setup_same closed is opened report_same closes
heard_marker_ok (Err e) old texts text hears new setup_same closed is opened report_same closes = tt
