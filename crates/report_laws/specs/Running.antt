-- What the program's `audit` finds of what its `solo`, `drive` or `replay` wrote without places.
use Rattle.std.specs.Prelude.{◌≡◌, ℕ, Bool, false, List, [], ◌∷◌, ◌++◌, Some}
use Rattle.command_words.specs.declared.jobs.Lanes.{Lanes}
use Rattle.command_words.specs.declared.turns.AskedTurns.{AskedTurns}
use Rattle.command_words.specs.declared.jobs.Job.TheVariants as job
use Rattle.pc_outside.specs.Texts.{ended, texts_of}
use Rattle.trace_run.specs.Report.{IsDone, Reports}
use Rattle.trace_run.specs.declared.status.Status.{Status}
use Rattle.trace_run.specs.declared.status.Status.TheVariants as status
use Rattle.pepc.specs.Audit.{AuditReports, audit_setup}
use Rattle.pepc.specs.Jobs.{Completes}
use Rattle.pepc.specs.Drive.{schedule_asked}
use Rattle.pepc.specs.Replay.{setup_asked}
use Rattle.solo_command.specs.Report.{IsSoloReport}
use Rattle.drive_command.specs.Driven.{IsDrivenReport}
use Rattle.lawful_run.specs.Report.{Report}
use Rattle.lawful_run.specs.Setup.{Setup, solo}
use Rattle.lawful_run.specs.Trace.{IsReport}
use Rattle.trace_lines.specs.Input.{Input}
use Rattle.report_laws.specs.Confirming.{AreHeld, audited_octets}

-- the reports that a run may write are lawful ones
abbrev pub AreLawful : Setup → (Input → Report → Type 0) → Type 0
AreLawful under may_have = (input : Input) (report : Report) → may_have input report → IsReport under input report

-- So are those of each command: on one thread, under a schedule, and over slices in threads.
pub record EachIsLawful : Type 0 where
  pub sequential : AreLawful solo IsSoloReport
  pub driven : (lanes : Lanes) (turns : AskedTurns)
      → AreLawful (setup_asked lanes) (IsDrivenReport (schedule_asked lanes turns))
  pub replayed : (lanes : Lanes) → AreLawful (setup_asked lanes) (IsReport (setup_asked lanes))

-- A run over octets that end with a newline had status 0 and wrote this text without places, and an audit reads octets,
-- the line between and that text whole.
pub record IsOwnRun (may_have : Input → Report → Type 0) (octets text : List ℕ) : Type 0 where
  pub prefix : List ℕ
  pub whole : octets ≡ prefix ++ 10 ∷ []
  pub left : List ℕ
  pub wrote : Reports may_have false status.Ok (Unit {0}) octets left text
  pub read : (texts_of (audited_octets octets text)).stop ≡ ended

-- Where no count of faults rises, a run of `audit` over it has status 0, unless memory runs out: of the same slices,
-- room and lanes; or of what one thread wrote of one thread, or of 64 slices with any room and lanes; whether or not it
-- is asked where a report is refuted.
abbrev pub RunIsConfirmed : Setup → (Input → Report → Type 0) → Type 0
RunIsConfirmed under may_have = (octets text : List ℕ) (alone why : Bool) (slices room lane : ℕ) (ending : Status)
    → AreHeld under (audit_setup alone slices room lane) → IsOwnRun may_have octets text
    → Completes (Some (job.Audit alone slices room lane why)) ending (Some (audited_octets octets text)) → IsDone ending

-- and never status 9
abbrev pub RunIsNeverRefuted : Setup → (Input → Report → Type 0) → Type 0
RunIsNeverRefuted under may_have = (octets text left told : List ℕ) (alone why : Bool) (slices room lane : ℕ)
    → AreHeld under (audit_setup alone slices room lane) → IsOwnRun may_have octets text
    → AuditReports status.Refuted why (audit_setup alone slices room lane) (audited_octets octets text) left told → ⊥

-- So it is for each command.
pub record OwnRunIsConfirmed : Type 0 where
  pub sequential : RunIsConfirmed solo IsSoloReport
  pub driven : (lanes : Lanes) (turns : AskedTurns)
      → RunIsConfirmed (setup_asked lanes) (IsDrivenReport (schedule_asked lanes turns))
  pub replayed : (lanes : Lanes) → RunIsConfirmed (setup_asked lanes) (IsReport (setup_asked lanes))

pub record OwnRunIsNeverRefuted : Type 0 where
  pub sequential : RunIsNeverRefuted solo IsSoloReport
  pub driven : (lanes : Lanes) (turns : AskedTurns)
      → RunIsNeverRefuted (setup_asked lanes) (IsDrivenReport (schedule_asked lanes turns))
  pub replayed : (lanes : Lanes) → RunIsNeverRefuted (setup_asked lanes) (IsReport (setup_asked lanes))
