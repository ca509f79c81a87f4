-- An audit finds nothing to refute in a lawful report without places.
use Rattle.std.proofs.Common.{◌≡◌, ℕ, ◌+◌, ◌≤◌, false, List, [], ◌∷◌, map, length, refl, sym, ap, ◌∙◌, subst, arith, inl, inr, None, Result, Ok, Err}
use Rattle.std.specs.List.{All}
use Rattle.std.proofs.lemmas.List.Elements.{All-from_recursion}
use Rattle.demux.specs.Trace.{book_of}
use Rattle.demux.proofs.BookBound.{book_most}
use Rattle.report_lines.specs.Text.{entry_text, shown}
use Rattle.report_lines.specs.declared.entry.Entry.{Entry}
use Rattle.trace_lines.specs.Input.{Input, line_then}
use Rattle.trace_lines.specs.Line.{IsLine, Line}
use Rattle.trace_lines.specs.Meaning.{line_meaning}
use Rattle.trace_lines.specs.declared.bad.LineBad.{LineBad}
use Rattle.trace_lines.proofs.InputRanges.{AreLines, lines_then, read_is_line}
use Rattle.lawful_run.specs.Report.{Report, entries_of}
use Rattle.lawful_run.specs.Run.{IsRun}
use Rattle.lawful_run.specs.Setup.{Setup, slices_of}
use Rattle.lawful_run.specs.Trace.{epochs_told}
use Rattle.report_laws.proofs.WithoutPlaces.{left_out}
use Rattle.lawful_run.proofs.InRange.{told_few, told_in_range}
use Rattle.audit_core.specs.Findings.{IsOf}
use Rattle.audit_core.specs.Said.{trace_from}
use Rattle.pc_outside.specs.Texts.{Text}
use Rattle.audit_core.proofs.OneFinding.{one_finding}
use Rattle.audit_core.proofs.SaidLemmas.{report_behind, trace_before}
use Rattle.report_laws.specs.Confirming.{AreHeld, OwnReportIsConfirmed, OwnReportIsNeverRefuted, audited, lines_of}
use Rattle.report_laws.specs.Shown.{report_shown}
use Rattle.report_laws.proofs.EntriesIn.{entries_in}
use Rattle.report_laws.proofs.OneThread.{entries_shown, lawful_on_slices}

-- the lines of a trace
trace_lines_are : (number least : ℕ) (texts : List Text) → AreLines (trace_from number least texts).lines
trace_lines_are number least [] = tt
trace_lines_are number least (text ∷ texts) =
    lines_then number (line_meaning least number text) (λ line. trace_from (number + 1) line.moment texts)
    (read_is_line least number text) (λ line. trace_lines_are (number + 1) line.moment texts)

then_few : (number n : ℕ) (read : Result Line LineBad) (behind : Line → Input)
    → ((line : Line) → length (behind line).lines ≤ n) → length (line_then number read behind).lines ≤ n + 1
then_few number n (Ok line) behind few = omega (arith, few line)
then_few number n (Err why) behind few = omega arith

trace_lines_few : (number least : ℕ) (texts : List Text) → length (trace_from number least texts).lines ≤ length texts
trace_lines_few number least [] = omega arith
trace_lines_few number least (text ∷ texts) =
    omega (
      arith,
      then_few number (length texts) (line_meaning least number text)
          (λ line. trace_from (number + 1) line.moment texts)
          (λ line. trace_lines_few (number + 1) line.moment texts),
    )

pub texts_shown : (entries : List Entry)
    → map (λ (told : Entry). entry_text (shown false told)) entries ≡ map entry_text (map (shown false) entries)
texts_shown [] = refl
texts_shown (told ∷ entries) = ap (λ rest. entry_text (shown false told) ∷ rest) (texts_shown entries)

-- the lines are lawful under the same setup, and those of one thread under each with as many slices
lawful_under : (under setup : Setup) (input : Input) (report : Report) → AreHeld under setup
    → IsRun under (length (book_of input.lines)) (epochs_told (slices_of under) input) report
    → IsOf setup input (entries_of (report_shown report))
lawful_under under setup input report (inl same) run = (
  report_shown report,
  left_out setup (length (book_of input.lines)) (epochs_told (slices_of setup) input) report
      (subst (λ s. IsRun s (length (book_of input.lines)) (epochs_told (slices_of s) input) report) same run),
  refl,
)
lawful_under under setup input report (inr on) run = (
  report_shown report,
  subst (λ n. IsRun setup (length (book_of input.lines)) (epochs_told n input) (report_shown report)) (sym on.1)
      (lawful_on_slices setup (length (book_of input.lines)) (epochs_told 64 input) report
      (subst (λ s. IsRun s (length (book_of input.lines)) (epochs_told (slices_of s) input) report) on.0 run)),
  refl,
)

pub own_confirmed : OwnReportIsConfirmed
own_confirmed under setup trace report held own =
    let input : Input = trace_from 1 0 trace in
    let are : All IsLine input.lines = All-from_recursion IsLine input.lines (trace_lines_are 1 0 trace) in
    record {
      entries = entries_of (report_shown report);
      are = record {
        same = report_behind trace (lines_of report) own.unmarked ∙ texts_shown (entries_of report)
            ∙ ap (map entry_text) (sym (entries_shown report));
        ranges = entries_in under (length (book_of input.lines)) (epochs_told (slices_of under) input) report own.lawful
            (told_in_range (slices_of under) input are)
            (omega (arith, own.few, told_few (slices_of under) input, trace_lines_few 1 0 trace))
            (book_most input.lines);
      };
      lawful = subst (λ (texts : List Text). IsOf setup (trace_from 1 0 texts) (entries_of (report_shown report)))
          (sym (trace_before trace (lines_of report) own.unmarked))
          (lawful_under under setup input report held own.lawful);
    }

pub own_never_refuted : OwnReportIsNeverRefuted
own_never_refuted under setup trace report found held own finds =
    one_finding setup (audited trace report) found None finds (own_confirmed under setup trace report held own)
