-- What a run of `export` wrote, by its status.
use Rattle.std.specs.Prelude.{◌≡◌, ℕ, ◌⊎◌, List, [], ◌++◌, Option}
use Rattle.std.specs.Io.KnownBytes.{Appends}
use Rattle.trace_lines.specs.Input.{big, ended, input_of}
use Rattle.trace_lines.specs.Line.{Line}
use Rattle.pcap_form.specs.Export.{export_of}
use Rattle.trace_run.specs.declared.status.Status.{Status}
use Rattle.trace_run.specs.declared.status.Status.TheVariants as status
use Rattle.trace_run.specs.Report.{IsBad, IsLong, Taken}
use Rattle.pc_outside.specs.WhereTold.{WhereTold}

-- the capture of an input's lines
abbrev pub input_export : List ℕ → List ℕ
input_export octets = export_of (input_of octets).lines

-- the capture of the whole lines that were taken, none of which is bad or long
pub record IsFaultExport (octets left text : List ℕ) : Type 0 where
  pub taken : Taken octets left
  pub stop : (input_of taken.whole).stop ≡ ended
  pub capture : text ≡ export_of (input_of taken.whole).lines

-- a prefix of the capture
pub record IsCutExport (octets text : List ℕ) : Type 0 where
  pub more : List ℕ
  pub parts : input_export octets ≡ text ++ more

-- nothing, or the header and the records of some first lines
pub record IsFirstExport (octets text : List ℕ) : Type 0 where
  pub first : List Line
  pub rest : List Line
  pub parts : (input_of octets).lines ≡ first ++ rest
  pub capture : (text ≡ []) ⊎ (text ≡ export_of first)

abbrev pub ExportReports : Status → List ℕ → List ℕ → List ℕ → Type 0
ExportReports status.Ok octets left text = ((input_of octets).stop ≡ ended) × (left ≡ []) × (text ≡ input_export octets)
ExportReports status.Usage octets left text = ⊥
ExportReports status.ReadFault octets left text = IsFaultExport octets left text
ExportReports status.WriteFault octets left text = IsCutExport octets text
ExportReports status.NoMemory octets left text = IsFirstExport octets text
ExportReports status.BadLine octets left text = IsBad (input_of octets).stop × (text ≡ input_export octets)
ExportReports status.LineLong octets left text = IsLong (input_of octets).stop × (text ≡ input_export octets)
ExportReports status.TooLong octets left text = ((input_of octets).stop ≡ big) × (text ≡ input_export octets)
ExportReports status.Refuted octets left text = ⊥
ExportReports status.BadCapture octets left text = ⊥
ExportReports status.BadState octets left text = ⊥
ExportReports status.BadReport octets left text = ⊥

-- octets were appended to what a sink tells, and they are the capture of what a source told
pub record Exports (ending : Status) (source_failed : Type 0) (start left old new : Option (List ℕ)) : Type 0 where
  pub text : List ℕ
  pub written : Appends old new text
  pub report : WhereTold start left (λ octets rest. ExportReports ending octets rest text)
