-- What an import wrote, by its status.
use Rattle.std.proofs.Common.{◌≡◌, ℕ, inl, inr, List, [], Option, None, Some, refl, sym, ◌∙◌, subst}
use Rattle.std.proofs.KnownBytes.{Appends-nil}
use Rattle.pcap_form.specs.Report.{Reports, Runs}
use Rattle.pcap_form.specs.declared.importing.Imported.{Imported}
use Rattle.pcap_form.specs.declared.importing.Imported.TheVariants as imported
use Rattle.pcap_form.specs.Capture.{bad, big, ended, input_capture, stop_of}
use Rattle.trace_run.specs.declared.status.Status.{Status}
use Rattle.trace_run.specs.declared.status.Status.TheVariants as status
use Rattle.pepc.specs.Import.{ImportReports, Imports, status_of}
use Rattle.trace_run.specs.Report.{IsDone}
use Rattle.pc_outside.specs.WhereTold.{WhereTold}
use Rattle.pc_outside.proofs.ToldLemmas.{told_map}

reports_are : (one : Imported) (octets left text : List ℕ) → Reports one octets left text
    → ImportReports (status_of one) octets left text
reports_are imported.Ended octets left text reports = reports
reports_are imported.ReadFault octets left text reports = reports
reports_are imported.WriteFault octets left text reports = reports
reports_are imported.NoMemory octets left text reports = reports
reports_are imported.TooLong octets left text reports = reports
reports_are imported.BadCapture octets left text reports = reports

pub imports_are : (one : Imported) (failed : Type 0) (start left old new : Option (List ℕ))
    → Runs one start left old new
    → Imports (status_of one) failed start left old new
imports_are one failed start left old new runs = record {
  text = runs.text;
  written = runs.written;
  report = told_map start left (λ octets rest. Reports one octets rest runs.text)
      (λ octets rest. ImportReports (status_of one) octets rest runs.text)
      (λ octets rest reports. reports_are one octets rest runs.text reports) runs.report;
}

-- memory ran out before anything was read
pub nothing_imported : (failed : Type 0) (start sink : Option (List ℕ))
    → Imports status.NoMemory failed start start sink sink
nothing_imported failed start sink = record { text = []; written = Appends-nil sink; report = told start }
  where
    told : (start : Option (List ℕ)) → WhereTold start start
        (λ octets rest. ImportReports status.NoMemory octets rest [])
    told None = tt
    told (Some octets) = record { first = []; rest = (input_capture octets).records; parts = refl; trace = refl }

-- Where the capture ends cleanly and nothing failed, memory alone can run out.
pub import_complete : (ending : Status) (source_failed sink_failed : Type 0) (octets : List ℕ)
    (start left old new : Option (List ℕ)) → start ≡ Some octets
    → stop_of octets ≡ ended → (source_failed → ⊥) → (sink_failed → ⊥)
    → (ending ≡ status.ReadFault → source_failed) → (ending ≡ status.WriteFault → sink_failed)
    → Imports ending source_failed start left old new → IsDone ending
import_complete ending source_failed sink_failed octets start left old new is stop no_fault no_sink read_fault
    write_fault runs =
    by_left left (subst (λ s. WhereTold s left (λ o l. ImportReports ending o l runs.text)) is runs.report)
  where
    by_status : (s : Status) (l text : List ℕ) → ImportReports s octets l text → (s ≡ status.ReadFault → source_failed)
        → (s ≡ status.WriteFault → sink_failed) → IsDone s
    by_status status.Ok l text reports read write = inl refl
    by_status status.Usage l text reports read write = absurd reports
    by_status status.ReadFault l text reports read write = absurd (no_fault (read refl))
    by_status status.WriteFault l text reports read write = absurd (no_sink (write refl))
    by_status status.NoMemory l text reports read write = inr refl
    by_status status.BadLine l text reports read write = absurd reports
    by_status status.LineLong l text reports read write = absurd reports
    by_status status.TooLong l text reports read write = let clash : ended ≡ big = sym stop ∙ reports.0 in cc
    by_status status.Refuted l text reports read write = absurd reports
    by_status status.BadCapture l text reports read write = let clash : ended ≡ bad = sym stop ∙ reports.0 in cc
    by_status status.BadState l text reports read write = absurd reports
    by_status status.BadReport l text reports read write = absurd reports

    by_left : (l : Option (List ℕ)) → WhereTold (Some octets) l (λ o rest. ImportReports ending o rest runs.text)
        → IsDone ending
    by_left None told = absurd told
    by_left (Some rest) told = by_status ending rest runs.text told read_fault write_fault
