-- How far an import has come.
use Rattle.std.specs.Prelude.{◌≡◌, ◌≢◌, ℕ, ◌+◌, ◌<◌, ◌^◌, ◌⊎◌, List, [], ◌++◌, length}
use Rattle.std.specs.Prelude.{Option, unwrap_or}
use Rattle.std.specs.Io.KnownBytes.{Appends}
use Rattle.pcap_form.specs.declared.head.CaptureHead.{CaptureHead}
use Rattle.pcap_form.specs.Record.{Record}
use Rattle.pcap_form.specs.Capture.{broken, bad, big, ended, after_records, capture_of, input_capture, records_of}
use Rattle.pcap_form.specs.Capture.{stop_of}
use Rattle.pcap_form.specs.Trace.{first_time, lines_from, lines_of, trace_of}
use Rattle.pcap_form.specs.declared.importing.Stopped.{Stopped}
use Rattle.pcap_form.specs.declared.importing.Stopped.TheVariants as stopped
use Rattle.pc_outside.specs.declared.writing.Unwritten.{Unwritten}
use Rattle.pc_outside.specs.declared.writing.Unwritten.TheVariants as unwritten
use Rattle.pcap_form.specs.declared.importing.Imported.{Imported}
use Rattle.pcap_form.specs.declared.importing.Imported.TheVariants as imported
use Rattle.pc_outside.specs.WhereTold.{WhereTold}

-- the octets before those ahead are a header and these records, whatever comes behind
pub record HasRead (octets ahead : List ℕ) (head : CaptureHead) (room : ℕ) (done : List Record) : Type 0 where
  pub gone : List ℕ
  pub parts : octets ≡ gone ++ ahead
  pub taken : length gone + room ≡ 2 ^ 40
  pub says : (behind : List ℕ) → capture_of (gone ++ behind) ≡ after_records done (records_of head behind)

-- The records are read, the trace of some first ones is written, and that of the others waits. The first one's time and
-- the last one's moment tell the lines of what comes behind.
pub record Progress (start ahead old new : Option (List ℕ)) (head : CaptureHead) (first : Option ℕ) (least room : ℕ)
    (waiting : List ℕ) (done : List Record) : Type 0 where
  pub read : WhereTold start ahead (λ octets rest. HasRead octets rest head room done)
  pub closed : List Record
  pub open_ : List Record
  pub cut : done ≡ closed ++ open_
  pub written : Appends old new (trace_of closed)
  pub waits : trace_of done ≡ trace_of closed ++ waiting
  pub lines : (behind : List Record)
      → lines_of (done ++ behind) ≡ lines_of done ++ lines_from (unwrap_or first (first_time behind)) least behind

-- the records of an input begin with these
abbrev pub Begins : List ℕ → List Record → Type 0
Begins octets done = (more : List Record) × ((input_capture octets).records ≡ done ++ more)

-- what was taken has these whole records, and none of it is bad
pub record Fails (octets left : List ℕ) (done : List Record) : Type 0 where
  pub taken : List ℕ
  pub parts : octets ≡ taken ++ left
  pub within : length taken < 2 ^ 40
  pub sound : (capture_of taken).tail ≢ broken
  pub records : (capture_of taken).records ≡ done
  pub begins : Begins octets done

-- where the records ended so: the octets that a source had, and those that it has left
abbrev pub Reached : Stopped → List ℕ → List ℕ → List Record → Type 0
Reached stopped.Ended octets left done =
    (stop_of octets ≡ ended) × (left ≡ []) × ((input_capture octets).records ≡ done)
Reached stopped.ReadFault octets left done = Fails octets left done
Reached stopped.TooLong octets left done = (stop_of octets ≡ big) × ((input_capture octets).records ≡ done)
Reached stopped.BadCapture octets left done = (stop_of octets ≡ bad) × ((input_capture octets).records ≡ done)

-- no more records come; the trace of some first ones is written, and that of the others waits
pub record Ends (stop : Stopped) (start left old new : Option (List ℕ)) (waiting : List ℕ) : Type 0 where
  pub done : List Record
  pub closed : List Record
  pub open_ : List Record
  pub cut : done ≡ closed ++ open_
  pub reached : WhereTold start left (λ octets rest. Reached stop octets rest done)
  pub written : Appends old new (trace_of closed)
  pub waits : trace_of done ≡ trace_of closed ++ waiting

-- a line's text was taken: it waits, or all that waited is written
pub record Stays (old new : Option (List ℕ)) (text waiting : List ℕ) : Type 0 where
  pub kept : new ≡ old
  pub waits : waiting ≡ text

pub record IsSent (old new : Option (List ℕ)) (text waiting : List ℕ) : Type 0 where
  pub written : Appends old new text
  pub emptied : waiting ≡ []

abbrev pub Takes : Option (List ℕ) → Option (List ℕ) → List ℕ → List ℕ → Type 0
Takes old new text waiting = Stays old new text waiting ⊎ IsSent old new text waiting

-- what was written of the trace of these records where it is cut: a prefix of it, or that of some first ones
abbrev pub CutAt : Unwritten → List Record → List ℕ → Type 0
CutAt unwritten.WriteFault done text = (more : List ℕ) × (trace_of done ≡ text ++ more)
CutAt unwritten.NoMemory done text =
    (closed : List Record) × (open_ : List Record) × (done ≡ closed ++ open_) × (text ≡ trace_of closed)

pub record Cuts (why : Unwritten) (start left old new : Option (List ℕ)) : Type 0 where
  pub done : List Record
  pub reached : WhereTold start left (λ octets rest. Begins octets done)
  pub text : List ℕ
  pub written : Appends old new text
  pub cut : CutAt why done text

abbrev pub imported_at : Stopped → Imported
imported_at stopped.Ended = imported.Ended
imported_at stopped.ReadFault = imported.ReadFault
imported_at stopped.TooLong = imported.TooLong
imported_at stopped.BadCapture = imported.BadCapture

abbrev pub imported_without : Unwritten → Imported
imported_without unwritten.WriteFault = imported.WriteFault
imported_without unwritten.NoMemory = imported.NoMemory
