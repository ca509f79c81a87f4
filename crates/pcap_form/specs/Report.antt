-- What an import wrote, by how it ended.
use Rattle.std.specs.Prelude.{◌≡◌, ◌≢◌, ℕ, ◌<◌, ◌^◌, List, [], ◌++◌, length, Option}
use Rattle.std.specs.Io.KnownBytes.{Appends}
use Rattle.pc_outside.specs.WhereTold.{WhereTold}
use Rattle.pcap_form.specs.Capture.{broken, bad, big, ended, capture_of, input_capture, stop_of}
use Rattle.pcap_form.specs.Record.{Record}
use Rattle.pcap_form.specs.Trace.{trace_of}
use Rattle.pcap_form.specs.declared.importing.Imported.{Imported}
use Rattle.pcap_form.specs.declared.importing.Imported.TheVariants as imported

-- the trace of an input's capture, as far as it goes
abbrev pub input_text : List ℕ → List ℕ
input_text octets = trace_of (input_capture octets).records

-- The text is the trace of the whole records in the octets that were taken, which are fewer than are looked at; these
-- left are the others. None of what was taken is bad.
pub record IsFaultText (octets left text : List ℕ) : Type 0 where
  pub taken : List ℕ
  pub parts : octets ≡ taken ++ left
  pub within : length taken < 2 ^ 40
  pub sound : (capture_of taken).tail ≢ broken
  pub trace : text ≡ trace_of (capture_of taken).records

-- a prefix of the trace
pub record IsCutText (octets text : List ℕ) : Type 0 where
  pub more : List ℕ
  pub parts : input_text octets ≡ text ++ more

-- the trace of some first records
pub record IsFirstText (octets text : List ℕ) : Type 0 where
  pub first : List Record
  pub rest : List Record
  pub parts : (input_capture octets).records ≡ first ++ rest
  pub trace : text ≡ trace_of first

-- what an import that ended so wrote, where the source had these octets and has those left
abbrev pub Reports : Imported → List ℕ → List ℕ → List ℕ → Type 0
Reports imported.Ended octets left text = (stop_of octets ≡ ended) × (left ≡ []) × (text ≡ input_text octets)
Reports imported.ReadFault octets left text = IsFaultText octets left text
Reports imported.WriteFault octets left text = IsCutText octets text
Reports imported.NoMemory octets left text = IsFirstText octets text
Reports imported.TooLong octets left text = (stop_of octets ≡ big) × (text ≡ input_text octets)
Reports imported.BadCapture octets left text = (stop_of octets ≡ bad) × (text ≡ input_text octets)

-- octets were appended to what a sink tells, and they are the trace of what a source told
pub record Runs (ending : Imported) (start left old new : Option (List ℕ)) : Type 0 where
  pub text : List ℕ
  pub written : Appends old new text
  pub report : WhereTold start left (λ octets rest. Reports ending octets rest text)
