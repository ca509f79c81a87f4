-- A trace that was taken whole, and its report, as a case.
use Rattle.std.proofs.Common.{◌≡◌, ℕ, ◌==◌, ◌<◌, ◌≤◌, nat_lt, if◌then◌else◌, Bool, true, false, is_some, Option, Some, None, List, [], ◌∷◌, ◌++◌, length, fold, refl, sym, ap, ◌∙◌, subst, arith, append_assoc, append-nil, length-append}
use Rattle.std.proofs.lemmas.Bool.{ltb-true}
use Rattle.trace_lines.specs.Epochs.{ends_epoch, epochs_behind, epochs_of}
use Rattle.trace_lines.specs.Input.{Input}
use Rattle.trace_lines.specs.Line.{Line}
use Rattle.address_book.specs.Book.{slot_in}
use Rattle.demux.specs.Asked.{Asked, note, admission, of}
use Rattle.demux.specs.Line.{asked}
use Rattle.demux.specs.Resolved.{HasMoment, book_after, booked, decided}
use Rattle.demux.specs.Trace as trace
use Rattle.demux.specs.Trace.{Meaning, book_of, decisions, destination_after, meaning, meant}
use Rattle.demux.specs.declared.decision.Decision.{Decision}
use Rattle.demux.specs.declared.decision.Decision.TheVariants as decision
use Rattle.demux.proofs.MomentLemmas.{moment_decided}
use Rattle.report_lines.specs.declared.entry.Entry.{Entry}
use Rattle.lawful_run.specs.Cut.{lines_in}
use Rattle.lawful_run.specs.Setup.{slices_of, solo, sliced}
use Rattle.lawful_run.specs.Trace.{epochs_from, epochs_told, is_whole, meant_from, settled_by, stop_noted, with_noted}
use Rattle.lawful_run.proofs.CutEpochs.{meant_from-append}
use Rattle.at_rest.specs.Coming.{AreLater}
use Rattle.at_rest.specs.Meant.{HasItsMoment}
use Rattle.audit_core.specs.Belonging.{HasTaken, ends_from}
use Rattle.audit_core.specs.Entries.{all_lines}
use Rattle.audit_core.specs.Evidence.{HasHeardOf, IsCaseOf, TracesSo}
use Rattle.audit_core.specs.Heard.{SaysReport, with_report}
use Rattle.audit_core.specs.Holding.{AreKnown}
use Rattle.audit_core.specs.Judged.{ComeLater}
use Rattle.audit_core.specs.Said.{AreEntries, EndsAtNone, report_texts, trace_from, trace_said, trace_texts}
use Rattle.audit_core.specs.Setups.{IsSetup, input_with, setup_of, stop_of}
use Rattle.pc_outside.specs.Texts.{Text}
use Rattle.audit_core.specs.TraceTaken.{IsClosed, TakesLines}
use Rattle.audit_core.specs.declared.evidence.Evidence.{Evidence}
use Rattle.audit_core.specs.declared.setup.BadAt.{BadAt}
use Rattle.audit_core.specs.declared.setup.Setup.{Setup}
use Rattle.audit_core.specs.declared.trace.Trace.{Trace}
use Rattle.audit_core.proofs.CutLemmas.{all_own}
use Rattle.audit_core.proofs.FindingSteps.{case_of}
use Rattle.audit_core.proofs.HeardLemmas.{said_whole}
use Rattle.audit_core.proofs.SaidLemmas.{all_trace, no_report, report_behind, trace_before}

-- what the lines of all epochs mean, one behind another
by_whole : (whole : Bool) (made noted : List Meaning) → all_lines (with_noted whole made noted) ≡ made ++ noted
by_whole true made noted = ap (λ l. made ++ l) (all_own noted)
by_whole false made noted = append-nil (made ++ noted)

all_from : (slices : ℕ) (before : List Line) (epochs : List (List Line)) (noted : List Meaning)
    → all_lines (epochs_from slices before epochs noted) ≡ meant_from slices before (lines_in epochs) ++ noted
all_from slices before [] noted = all_own noted
all_from slices before (last ∷ []) noted =
    by_whole (is_whole [] last) (meant_from slices before last) noted
    ∙ ap (λ l. meant_from slices before l ++ noted) (sym (append-nil last))
all_from slices before (epoch ∷ next ∷ epochs) noted =
    ap (λ l. meant_from slices before epoch ++ l) (all_from slices (before ++ epoch) (next ∷ epochs) noted)
    ∙ sym (append_assoc (meant_from slices before epoch)
    (meant_from slices (before ++ epoch) (lines_in (next ∷ epochs))) noted)
    ∙ ap (λ l. l ++ noted) (sym (meant_from-append slices before epoch (lines_in (next ∷ epochs))))

either : {X : Type 0} (test : Bool) (f : X → List Line) (x y : X) (l : List Line) → f x ≡ l → f y ≡ l
    → f (if test then x else y) ≡ l
either true f x y l one other = one
either false f x y l one other = other

all_behind : (before lines : List Line) → lines_in (epochs_behind before lines) ≡ before ++ lines
all_behind [] [] = refl
all_behind (first ∷ before) [] = refl
all_behind [] (line ∷ lines) =
    either (ends_epoch [] line) lines_in (([] ++ line ∷ []) ∷ epochs_behind [] lines)
    (epochs_behind ([] ++ line ∷ []) lines) ([] ++ line ∷ lines)
    (ap (λ l. line ∷ l) (all_behind [] lines)) (all_behind ([] ++ line ∷ []) lines)
all_behind (first ∷ before) (line ∷ lines) =
    either (ends_epoch (first ∷ before) line) lines_in (((first ∷ before) ++ line ∷ []) ∷ epochs_behind [] lines)
    (epochs_behind ((first ∷ before) ++ line ∷ []) lines) ((first ∷ before) ++ line ∷ lines)
    (ap (λ l. ((first ∷ before) ++ line ∷ []) ++ l) (all_behind [] lines)
    ∙ append_assoc (first ∷ before) (line ∷ []) lines)
    (all_behind ((first ∷ before) ++ line ∷ []) lines ∙ append_assoc (first ∷ before) (line ∷ []) lines)

-- no packet is late where no line is
sooner : (soon late : ℕ) (made : List Meaning) → soon ≤ late → ComeLater late made → ComeLater soon made
sooner soon late [] low come = tt
sooner soon late (trace.command slot c ∷ made) low come = (omega arith, sooner soon late made low come.1)
sooner soon late (trace.packet slot p ∷ made) low come = (omega (arith, low, come.0), come.1)
sooner soon late (trace.move slot slice text ∷ made) low come = (omega arith, sooner soon late made low come.1)
sooner soon late (trace.note text ∷ made) low come = (omega arith, sooner soon late made low come.1)

late_step : (latest moment : ℕ) (now : Meaning) (made : List Meaning) → HasItsMoment moment now → latest ≤ moment
    → ComeLater moment made → ComeLater latest (now ∷ made)
late_step latest moment (trace.command slot c) made is low come = (omega arith, sooner latest moment made low come)
late_step latest moment (trace.packet slot p) made is low come =
    (omega (arith, low, is), subst (λ m. ComeLater m made) (sym is) come)
late_step latest moment (trace.move slot slice text) made is low come =
    (omega arith, sooner latest moment made low come)
late_step latest moment (trace.note text) made is low come = (omega arith, sooner latest moment made low come)

settled_moment : (moment slot slice : ℕ) (text : List ℕ) (test : Bool)
    → HasItsMoment moment (if test then trace.note text else trace.move slot slice text)
settled_moment moment slot slice text true = tt
settled_moment moment slot slice text false = tt

pub its_moment : (slices moment : ℕ) (before : List Line) (book : List (List ℕ)) (others : List Decision) (made : Decision)
    → HasMoment moment made → HasItsMoment moment (settled_by slices before (meant slices book others made))
its_moment slices moment before book others (decision.Command whose asks) has = tt
its_moment slices moment before book others (decision.Packet at lent) has = has
its_moment slices moment before book others (decision.Move at slice) has =
    settled_moment moment at slice _ (slice == destination_after slices at before)
its_moment slices moment before book others (decision.Note text) has = tt

pub late_from : (slices latest : ℕ) (before lines : List Line) (noted : List Meaning)
    → ((moment : ℕ) → ComeLater moment noted) → AreLater latest lines
    → ComeLater latest (meant_from slices before lines ++ noted)
late_from slices latest before [] noted quiet later = quiet latest
late_from slices latest before (line ∷ lines) noted quiet later =
    late_step latest line.moment (settled_by slices before (meaning slices before line))
    (meant_from slices (before ++ line ∷ []) lines ++ noted)
    (its_moment slices line.moment before (book_of before) (decisions slices before)
    (decided slices (book_of before) line) (moment_decided slices (book_of before) line))
    later.0 (late_from slices line.moment (before ++ line ∷ []) lines noted quiet later.1)

pub noted_quiet : (stop : Option BadAt) (moment : ℕ) → ComeLater moment (stop_noted (stop_of stop))
noted_quiet None moment = tt
noted_quiet (Some at) moment = (omega arith, tt)

told_late : (slices : ℕ) (lines : List Line) (stop : Option BadAt) → AreLater 0 lines
    → ComeLater 0 (all_lines (epochs_told slices (input_with lines stop)))
told_late slices lines stop later =
    subst (ComeLater 0)
    (sym (all_from slices [] (epochs_of lines) (stop_noted (stop_of stop))
    ∙ ap (λ l. meant_from slices [] l ++ stop_noted (stop_of stop)) (all_behind [] lines)))
    (late_from slices 0 [] lines (stop_noted (stop_of stop)) (noted_quiet stop) later)

-- a book has no more than so many slots
admitted_few : (known room : Bool) (book : List (List ℕ)) (digits : List ℕ) → nat_lt (length book) 65533 ≡ room
    → length book ≤ 65533
    → length (if room then (if known then book else book ++ digits ∷ []) else book) ≤ 65533
admitted_few true true book digits is few = few
admitted_few false true book digits is few =
    let low : length book < 65533 = ltb-true (length book) 65533 is in
    omega (arith, low, length-append book (digits ∷ []))
admitted_few known false book digits is few = few

booked_few : (book : List (List ℕ)) (one : Asked) → length book ≤ 65533 → length (booked book one) ≤ 65533
booked_few book (note text) few = few
booked_few book (admission digits asks full) few =
    admitted_few (is_some (slot_in book digits)) (nat_lt (length book) 65533) book digits refl few
booked_few book (of whom wish missing) few = few

pub book_few : (book : List (List ℕ)) (lines : List Line) → length book ≤ 65533 → length (fold book_after book lines) ≤ 65533
book_few book [] few = few
book_few book (line ∷ lines) few = book_few (book_after book line) lines (booked_few book (asked line) few)

-- the slices of a setup
by_solo : (given : Setup) (alone : Bool) → given.solo ≡ alone → IsSetup given
    → slices_of (if alone then solo else sliced given.slices given.room given.lane) ≡ given.slices
by_solo given true is setup = sym (setup.on_one_thread is)
by_solo given false is setup = refl

pub slices_are : (given : Setup) → IsSetup given → slices_of (setup_of given) ≡ given.slices
slices_are given setup = by_solo given given.solo refl setup

-- what was heard, whole
pub record IsHeardWhole (trace : Trace) (slices : ℕ) (texts : List Text) : Type 0 where
  pub lines : List Line
  pub stop : Option BadAt
  pub said : trace_said texts ≡ input_with lines stop
  pub closed : IsClosed trace slices lines stop

module _ (heard : Evidence) (texts : List Text) (hears : HasHeardOf heard texts) where
  pub report_is : report_texts texts ≡ hears.report_texts
  report_is = go heard.in_report refl
    where
      go : (opened : Bool) → opened ≡ heard.in_report → report_texts texts ≡ hears.report_texts
      go false is =
          ap report_texts (hears.parts ∙ ap (λ b. hears.trace_texts ++ with_report b hears.report_texts) (sym is)
          ∙ append-nil hears.trace_texts)
          ∙ no_report hears.trace_texts hears.before ∙ sym (hears.unopened (sym is))
      go true is =
          ap report_texts (hears.parts ∙ ap (λ b. hears.trace_texts ++ with_report b hears.report_texts) (sym is))
          ∙ report_behind hears.trace_texts hears.report_texts hears.before

  trace_is : trace_texts texts ≡ hears.trace_texts
  trace_is = go heard.in_report refl
    where
      go : (opened : Bool) → opened ≡ heard.in_report → trace_texts texts ≡ hears.trace_texts
      go false is =
          ap trace_texts (hears.parts ∙ ap (λ b. hears.trace_texts ++ with_report b hears.report_texts) (sym is)
          ∙ append-nil hears.trace_texts)
          ∙ all_trace hears.trace_texts hears.before
      go true is =
          ap trace_texts (hears.parts ∙ ap (λ b. hears.trace_texts ++ with_report b hears.report_texts) (sym is))
          ∙ trace_before hears.trace_texts hears.report_texts hears.before

  -- a trace that is closed now, or was closed where its report began
  pub heard_whole : (new : Trace)
      → ((slices : ℕ) (done : List Line) (stop : Option BadAt) → TakesLines heard.trace slices done stop
      → IsClosed new slices done stop)
      → ((slices : ℕ) (done : List Line) (stop : Option BadAt) → IsClosed heard.trace slices done stop
      → IsClosed new slices done stop)
      → IsHeardWhole new heard.setup.slices texts
  heard_whole new closes again = go heard.in_report hears.traces
    where
      go : (opened : Bool) → TracesSo opened heard hears.trace_texts → IsHeardWhole new heard.setup.slices texts
      go false taken = record {
        lines = taken.lines;
        stop = taken.stop;
        said = ap (trace_from 1 0) trace_is
            ∙ said_whole taken.lines taken.stop heard.trace.least hears.trace_texts taken.says;
        closed = closes heard.setup.slices taken.lines taken.stop taken.takes;
      }
      go true whole = record {
        lines = whole.lines;
        stop = whole.stop;
        said = ap (trace_from 1 0) (trace_is ∙ sym (trace_before hears.trace_texts [] hears.before)) ∙ whole.says;
        closed = again heard.setup.slices whole.lines whole.stop whole.closed;
      }

  -- the entries of a report each line of which is one
  pub entries_are : heard.report.none ≡ false → AreEntries (report_texts texts) hears.reports.entries
  entries_are all =
      subst (λ t. AreEntries t hears.reports.entries) (sym report_is)
      (subst (λ none. SaysReport none hears.report_texts hears.reports.entries) all hears.reports.says)

  pub ends_none : heard.report.none ≡ true → EndsAtNone (report_texts texts) hears.reports.entries
  ends_none none_ =
      subst (λ t. EndsAtNone t hears.reports.entries) (sym report_is)
      (subst (λ none. SaysReport none hears.report_texts hears.reports.entries) none_ hears.reports.says)

  pub case_so : (new : Trace) → IsHeardWhole new heard.setup.slices texts → heard.report.none ≡ false
      → (entries : List Entry) → AreEntries (report_texts texts) entries
      → IsCaseOf (case_of (setup_of heard.setup) (trace_said texts) entries) heard.setup new heard.report
  case_so new whole all entries are =
      let slices : slices_of (setup_of heard.setup) ≡ heard.setup.slices = slices_are heard.setup hears.setup_is in
      let made : epochs_told (slices_of (setup_of heard.setup)) (trace_said texts)
      ≡ epochs_told heard.setup.slices (input_with whole.lines whole.stop) =
      (λ i. epochs_told (slices i) (whole.said i)) in
      let slots : length new.subscribers.items ≡ length (book_of (trace_said texts).lines) =
      whole.closed.leaves.many ∙ ap length whole.closed.leaves.stand.book_is
      ∙ ap (λ (input : Input). length (book_of input.lines)) (sym whole.said) in
      record {
        setup_is = refl;
        held = record {
          texts = hears.report_texts;
          taken = subst (λ n. HasTaken (epochs_told n (trace_said texts)) hears.report_texts heard.report) (sym slices)
              hears.reports;
          are = subst (λ t. AreEntries t entries) report_is are;
          all = all;
        };
        mean = whole.closed.mean ∙ ap all_lines (sym made);
        placed = whole.closed.placed;
        ends = whole.closed.ends ∙ ap (ends_from 0) (sym made);
        many = slots;
        few_slots = book_few [] (trace_said texts).lines (omega arith);
        slices = heard.setup.slices;
        rest = whole.closed.leaves.rest;
        no_event = whole.closed.leaves.no_event;
        late = subst (λ m. ComeLater 0 (all_lines m)) (sym made)
            (told_late heard.setup.slices whole.lines whole.stop whole.closed.later);
        known = subst (AreKnown (length (book_of (trace_said texts).lines))) (sym made)
            (subst (λ n. AreKnown n (epochs_told heard.setup.slices (input_with whole.lines whole.stop))) slots
            whole.closed.known);
        few = whole.closed.few;
      }
