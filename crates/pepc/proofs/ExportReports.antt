-- What an export wrote, by its status.
use Rattle.std.proofs.Common.{◌≡◌, ℕ, inl, inr, ◌+◌, List, [], ◌++◌, length, flat_map, Option, None, Some, refl, sym, ap, ◌∙◌, subst, append_assoc, append-nil}
use Rattle.std.specs.Io.KnownBytes.{Appends}
use Rattle.std.proofs.KnownBytes.{Appends-nil}
use Rattle.std.proofs.lemmas.Grind.{flat_map-append}
use Rattle.trace_lines.specs.Input.{Input, Stop, bad, big, ended, input_of, long}
use Rattle.trace_lines.specs.Line.{Line}
use Rattle.pcap_form.specs.Export.{export_of, header, record_of}
use Rattle.trace_run.specs.declared.ending.Ending.{Ending}
use Rattle.trace_run.specs.declared.ending.Ending.TheVariants.{Ended, ReadFault, BadLine, LineLong, TooLong}
use Rattle.pc_outside.specs.declared.writing.Unwritten.{Unwritten}
use Rattle.pc_outside.specs.declared.writing.Unwritten.TheVariants as unwritten
use Rattle.trace_run.specs.declared.status.Status.{Status}
use Rattle.trace_run.specs.declared.status.Status.TheVariants as status
use Rattle.pepc.specs.Export.{ExportReports, Exports, IsCutExport, IsFirstExport, input_export}
use Rattle.pepc.specs.ExportProgress.{BreaksOff, Captures, IsFirst}
use Rattle.trace_run.specs.Beginnings.{whole_input}
use Rattle.trace_run.specs.Lines.{Begins, Reached, Stops}
use Rattle.trace_run.specs.Status.{status_at, status_without}
use Rattle.trace_run.specs.Report.{IsBad, IsDone, IsLong}
use Rattle.trace_run.specs.Takers.{LinesCut}
use Rattle.pc_outside.specs.WhereTold.{WhereTold}
use Rattle.trace_run.proofs.EndingLemmas.{stop_is}
use Rattle.pc_outside.proofs.ToldLemmas.{told_map}

-- the capture of first lines is a prefix of that of all
export-prefix : (done more : List Line) → export_of (done ++ more) ≡ export_of done ++ flat_map record_of more
export-prefix done more =
    ap (λ records. header ++ records) (flat_map-append record_of done more)
    ∙ sym (append_assoc header (flat_map record_of done) (flat_map record_of more))

cut_export : (octets text more : List ℕ) (done : List Line) → Begins octets done → export_of done ≡ text ++ more
    → IsCutExport octets text
cut_export octets text more done begins parts =
    let rest = flat_map record_of begins.0.lines in
    record {
      more = more ++ rest;
      parts = ap (λ (i : Input). export_of i.lines) begins.1 ∙ export-prefix done begins.0.lines
          ∙ ap (λ t. t ++ rest) parts ∙ append_assoc text more rest;
    }

lines_are : (octets : List ℕ) (done : List Line) (stop : Stop) (text : List ℕ) → Stops octets done stop
    → text ≡ export_of done
    → text ≡ input_export octets
lines_are octets done stop text stops is = is ∙ ap (λ (i : Input). export_of i.lines) (sym stops)

reports_at : (ending : Ending) (octets left text : List ℕ) (done : List Line) → text ≡ export_of done
    → Reached ending octets left done → ExportReports (status_at ending) octets left text
reports_at Ended octets left text done is reached =
    (stop_is whole_input octets done ended reached.0, reached.1, lines_are octets done ended text reached.0 is)
reports_at ReadFault octets left text done is reached = record {
  taken = reached.taken;
  stop = stop_is whole_input reached.taken.whole done ended reached.stops;
  capture = lines_are reached.taken.whole done ended text reached.stops is;
}
reports_at (BadLine why) octets left text done is reached =
    let stop = bad (length done + 1) why in
    (subst IsBad (sym (stop_is whole_input octets done stop reached)) tt, lines_are octets done stop text reached is)
reports_at LineLong octets left text done is reached =
    let stop = long (length done + 1) in
    (subst IsLong (sym (stop_is whole_input octets done stop reached)) tt, lines_are octets done stop text reached is)
reports_at TooLong octets left text done is reached =
    (stop_is whole_input octets done big reached, lines_are octets done big text reached is)

-- what waited is written
pub ends_whole : (ending : Ending) (failed : Type 0) (start left old new : Option (List ℕ)) (now : List ℕ)
    (done : List Line) → WhereTold start left (λ octets rest. Reached ending octets rest done) → now ≡ []
    → Captures now done old new → Exports (status_at ending) failed start left old new
ends_whole ending failed start left old new now done reached emptied captures = record {
  text = export_of done;
  written = subst (Appends old new) (sym (captures.waits ∙ ap (λ t. captures.sent ++ t) emptied
      ∙ append-nil captures.sent)) captures.written;
  report = told_map start left (λ octets rest. Reached ending octets rest done)
      (λ octets rest. ExportReports (status_at ending) octets rest (export_of done))
      (λ octets rest is. reports_at ending octets rest (export_of done) done refl is) reached;
}

-- or a prefix of the capture
pub ends_cut : (failed : Type 0) (start left old new : Option (List ℕ)) (done : List Line)
    → WhereTold start left (λ octets rest. Begins octets done) → BreaksOff done old new
    → Exports status.WriteFault failed start left old new
ends_cut failed start left old new done reached cut = record {
  text = cut.sent;
  written = cut.written;
  report = told_map start left (λ octets rest. Begins octets done) (λ octets rest. IsCutExport octets cut.sent)
      (λ octets rest begins. cut_export octets cut.sent cut.more done begins cut.parts) reached;
}

-- memory ran out
first_export : (octets sent : List ℕ) (done : List Line) → Begins octets done → IsFirst sent done
    → IsFirstExport octets sent
first_export octets sent done begins first = record {
  first = first.closed;
  rest = first.open_ ++ begins.0.lines;
  parts = ap (λ (i : Input). i.lines) begins.1 ∙ ap (λ lines. lines ++ begins.0.lines) first.cut
      ∙ append_assoc first.closed first.open_ begins.0.lines;
  capture = first.capture;
}

pub cuts_export : {T : Type 0} (waiting : T → List ℕ) (why : Unwritten) (failed : Type 0)
    (start left old new : Option (List ℕ))
    → LinesCut (λ taker done latest. Captures (waiting taker) done) BreaksOff why start left old new
    → Exports (status_without why) failed start left old new
cuts_export waiting unwritten.WriteFault failed start left old new cuts =
    ends_cut failed start left old new cuts.done cuts.reached cuts.cut
cuts_export waiting unwritten.NoMemory failed start left old new cuts = record {
  text = cuts.cut.2.sent;
  written = cuts.cut.2.written;
  report = told_map start left (λ octets rest. Begins octets cuts.done)
      (λ octets rest. IsFirstExport octets cuts.cut.2.sent)
      (λ octets rest begins. first_export octets cuts.cut.2.sent cuts.done begins cuts.cut.2.first) cuts.reached;
}

-- memory ran out before anything was read
pub nothing_exported : (failed : Type 0) (start sink : Option (List ℕ))
    → Exports status.NoMemory failed start start sink sink
nothing_exported failed start sink = record { text = []; written = Appends-nil sink; report = told start }
  where
    told : (start : Option (List ℕ)) → WhereTold start start
        (λ octets rest. ExportReports status.NoMemory octets rest [])
    told None = tt
    told (Some octets) = record { first = []; rest = (input_of octets).lines; parts = refl; capture = inl refl }

-- Where the input stops at its end and nothing failed, memory alone can run out.
pub export_complete : (ending : Status) (source_failed sink_failed : Type 0) (octets : List ℕ)
    (start left old new : Option (List ℕ)) → start ≡ Some octets
    → (input_of octets).stop ≡ ended → (source_failed → ⊥) → (sink_failed → ⊥)
    → (ending ≡ status.ReadFault → source_failed) → (ending ≡ status.WriteFault → sink_failed)
    → Exports ending source_failed start left old new → IsDone ending
export_complete ending source_failed sink_failed octets start left old new is stop no_fault no_sink read_fault
    write_fault runs =
    by_left left (subst (λ s. WhereTold s left (λ o l. ExportReports ending o l runs.text)) is runs.report)
  where
    by_status : (s : Status) (l text : List ℕ) → ExportReports s octets l text → (s ≡ status.ReadFault → source_failed)
        → (s ≡ status.WriteFault → sink_failed) → IsDone s
    by_status status.Ok l text reports read write = inl refl
    by_status status.Usage l text reports read write = absurd reports
    by_status status.ReadFault l text reports read write = absurd (no_fault (read refl))
    by_status status.WriteFault l text reports read write = absurd (no_sink (write refl))
    by_status status.NoMemory l text reports read write = inr refl
    by_status status.BadLine l text reports read write = absurd (subst IsBad stop reports.0)
    by_status status.LineLong l text reports read write = absurd (subst IsLong stop reports.0)
    by_status status.TooLong l text reports read write = let clash : ended ≡ big = sym stop ∙ reports.0 in cc
    by_status status.Refuted l text reports read write = absurd reports
    by_status status.BadCapture l text reports read write = absurd reports
    by_status status.BadState l text reports read write = absurd reports
    by_status status.BadReport l text reports read write = absurd reports

    by_left : (l : Option (List ℕ)) → WhereTold (Some octets) l (λ o rest. ExportReports ending o rest runs.text)
        → IsDone ending
    by_left None told = absurd told
    by_left (Some rest) told = by_status ending rest runs.text told read_fault write_fault
