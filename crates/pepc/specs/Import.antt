-- What a run of `import` wrote, by its status.
use Rattle.std.specs.Prelude.{◌≡◌, ℕ, List, [], Option}
use Rattle.std.specs.Io.KnownBytes.{Appends}
use Rattle.pcap_form.specs.Report.{IsCutText, IsFaultText, IsFirstText, input_text}
use Rattle.pcap_form.specs.declared.importing.Imported.{Imported}
use Rattle.pcap_form.specs.declared.importing.Imported.TheVariants as imported
use Rattle.pcap_form.specs.Capture.{bad, big, ended, stop_of}
use Rattle.trace_run.specs.declared.status.Status.{Status}
use Rattle.trace_run.specs.declared.status.Status.TheVariants as status
use Rattle.pc_outside.specs.WhereTold.{WhereTold}

abbrev pub status_of : Imported → Status
status_of imported.Ended = status.Ok
status_of imported.ReadFault = status.ReadFault
status_of imported.WriteFault = status.WriteFault
status_of imported.NoMemory = status.NoMemory
status_of imported.TooLong = status.TooLong
status_of imported.BadCapture = status.BadCapture

-- A capture has no lines, so none is bad or long.
abbrev pub ImportReports : Status → List ℕ → List ℕ → List ℕ → Type 0
ImportReports status.Ok octets left text = (stop_of octets ≡ ended) × (left ≡ []) × (text ≡ input_text octets)
ImportReports status.Usage octets left text = ⊥
ImportReports status.ReadFault octets left text = IsFaultText octets left text
ImportReports status.WriteFault octets left text = IsCutText octets text
ImportReports status.NoMemory octets left text = IsFirstText octets text
ImportReports status.BadLine octets left text = ⊥
ImportReports status.LineLong octets left text = ⊥
ImportReports status.TooLong octets left text = (stop_of octets ≡ big) × (text ≡ input_text octets)
ImportReports status.Refuted octets left text = ⊥
ImportReports status.BadCapture octets left text = (stop_of octets ≡ bad) × (text ≡ input_text octets)
ImportReports status.BadState octets left text = ⊥
ImportReports status.BadReport octets left text = ⊥

-- octets were appended to what a sink tells, and they are the trace of what a source told
pub record Imports (ending : Status) (source_failed : Type 0) (start left old new : Option (List ℕ)) : Type 0 where
  pub text : List ℕ
  pub written : Appends old new text
  pub report : WhereTold start left (λ octets rest. ImportReports ending octets rest text)
