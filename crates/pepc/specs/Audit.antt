-- What a run of `audit` wrote, by its status.
use Rattle.std.specs.Prelude.{◌≡◌, ℕ, ◌⊎◌, Bool, List, [], Option, None, Some, if◌then◌else◌}
use Rattle.std.specs.Io.KnownBytes.{Appends}
use Rattle.lawful_run.specs.Setup.{Setup, sliced, solo}
use Rattle.pc_outside.specs.InputRead.{IsReadWhole, IsTaken}
use Rattle.pc_outside.specs.Texts.{big, long, texts_of}
use Rattle.audit_core.specs.declared.auditing.Audited.{Audited}
use Rattle.audit_core.specs.declared.auditing.Audited.TheVariants as audited
use Rattle.audit_core.specs.Report.{SaysPart, SaysWhole}
use Rattle.trace_run.specs.declared.status.Status.{Status}
use Rattle.trace_run.specs.declared.status.Status.TheVariants as status
use Rattle.trace_run.specs.Report.{IsDone}
use Rattle.pc_outside.specs.WhereTold.{WhereTold}

-- the gateway whose report it should be
abbrev pub audit_setup : Bool → ℕ → ℕ → ℕ → Setup
audit_setup alone slices room lane = if alone then solo else sliced slices room lane

abbrev pub status_of : Audited → Status
status_of audited.Confirmed = status.Ok
status_of audited.Refuted = status.Refuted
status_of audited.ReadFault = status.ReadFault
status_of audited.WriteFault = status.WriteFault
status_of audited.NoMemory = status.NoMemory
status_of audited.LineLong = status.LineLong
status_of audited.TooLong = status.TooLong

-- An audit stops at no bad line, and its input is no capture.
abbrev pub AuditReports : Status → Bool → Setup → List ℕ → List ℕ → List ℕ → Type 0
AuditReports status.Ok why setup octets left text = IsReadWhole octets left × SaysWhole why setup octets text None
AuditReports status.Usage why setup octets left text = ⊥
AuditReports status.ReadFault why setup octets left text = IsTaken octets left × (text ≡ [])
AuditReports status.WriteFault why setup octets left text = IsReadWhole octets left × SaysPart why setup octets text
AuditReports status.NoMemory why setup octets left text = text ≡ []
AuditReports status.BadLine why setup octets left text = ⊥
AuditReports status.LineLong why setup octets left text = ((texts_of octets).stop ≡ long) × (text ≡ [])
AuditReports status.TooLong why setup octets left text = ((texts_of octets).stop ≡ big) × (text ≡ [])
AuditReports status.Refuted why setup octets left text =
    IsReadWhole octets left × ((k : ℕ) × SaysWhole why setup octets text (Some k))
AuditReports status.BadCapture why setup octets left text = ⊥
AuditReports status.BadState why setup octets left text = ⊥
AuditReports status.BadReport why setup octets left text = ⊥

-- octets were appended to what a sink tells, and they say what is found of those that a source told
pub record Audits (why : Bool) (setup : Setup) (ending : Status) (start left old new : Option (List ℕ)) : Type 0 where
  pub text : List ℕ
  pub written : Appends old new text
  pub report : WhereTold start left (λ octets rest. AuditReports ending why setup octets rest text)

-- the status that a finding comes to, unless memory ran out
abbrev pub Settles : Option ℕ → Status → Type 0
Settles None ending = IsDone ending
Settles (Some k) ending = (ending ≡ status.Refuted) ⊎ (ending ≡ status.NoMemory)
