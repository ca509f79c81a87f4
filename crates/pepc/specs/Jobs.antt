-- What a run left, by the job that was asked for.
use Rattle.std.specs.Prelude.{◌≡◌, ℕ, false, List, Option, None, Some, option_and_then}
use Rattle.command_words.specs.declared.jobs.Job.{Job}
use Rattle.command_words.specs.declared.jobs.Job.TheVariants as job
use Rattle.pcap_form.specs.Capture as capture
use Rattle.trace_lines.specs.Input.{ended, input_of}
use Rattle.trace_run.specs.declared.status.Status.{Status}
use Rattle.drive_command.specs.Driven.{IsDrivenReport}
use Rattle.lawful_run.specs.Trace.{IsReport}
use Rattle.audit_core.specs.Findings.{Finds}
use Rattle.pc_outside.specs.Texts as texts
use Rattle.audit_core.specs.Said.{HasNoEntry, report_texts}
use Rattle.balance_plan.specs.Report.{Balances}
use Rattle.balance_plan.specs.Said.{IsTrace}
use Rattle.solo_command.specs.Resumes.{CompletesResume, Resumes}
use Rattle.save_command.specs.Saves.{Saves}
use Rattle.pepc.specs.Along.{AreJudged, AuditsAlong}
use Rattle.pepc.specs.Audit.{Audits, Settles, audit_setup}
use Rattle.pepc.specs.Drive.{schedule_asked}
use Rattle.pepc.specs.Export.{Exports}
use Rattle.pepc.specs.Import.{Imports}
use Rattle.pepc.specs.Make.{Makes}
use Rattle.pepc.specs.Replay.{setup_asked}
use Rattle.solo_command.specs.Report.{IsSoloReport}
use Rattle.trace_run.specs.Report.{IsDone, Runs}

-- The job that is done without threads: `replay` starts some, so it is none.
abbrev pub without_threads : Job → Option Job
without_threads job.Solo = Some job.Solo
without_threads (job.Drive lanes turns places) = Some (job.Drive lanes turns places)
without_threads (job.Replay lanes patience linger places) = None
without_threads (job.Make seed subs lines summary) = Some (job.Make seed subs lines summary)
without_threads job.Import = Some job.Import
without_threads job.Export = Some job.Export
without_threads (job.Audit solo slices room lane why) = Some (job.Audit solo slices room lane why)
without_threads (job.Along solo slices room lane why) = Some (job.Along solo slices room lane why)
without_threads (job.Balance slices most) = Some (job.Balance slices most)
without_threads job.Save = Some job.Save
without_threads job.Resume = Some job.Resume

abbrev pub plain_job : Option Job → Option Job
plain_job asked = option_and_then without_threads asked

-- What a run with this status did. The source told these octets before and after it, and so did the sink. Without a job
-- nothing is done.
abbrev pub Does : Option Job → Status → Type 0 → Option (List ℕ) → Option (List ℕ) → Option (List ℕ)
    → Option (List ℕ) → Type 0
Does None ending source_failed start left old new = (left ≡ start) × (new ≡ old)
Does (Some job.Solo) ending source_failed start left old new =
    Runs IsSoloReport false ending source_failed start left old new
Does (Some (job.Drive lanes turns places)) ending source_failed start left old new =
    Runs (IsDrivenReport (schedule_asked lanes turns)) places ending source_failed start left old new
Does (Some (job.Replay lanes patience linger places)) ending source_failed start left old new =
    Runs (IsReport (setup_asked lanes)) places ending source_failed start left old new
Does (Some (job.Make seed subs lines summary)) ending source_failed start left old new =
    (left ≡ start) × Makes seed subs lines summary ending old new
Does (Some job.Import) ending source_failed start left old new = Imports ending source_failed start left old new
Does (Some job.Export) ending source_failed start left old new = Exports ending source_failed start left old new
Does (Some (job.Audit solo slices room lane why)) ending source_failed start left old new =
    Audits why (audit_setup solo slices room lane) ending start left old new
Does (Some (job.Along solo slices room lane why)) ending source_failed start left old new =
    AuditsAlong why (audit_setup solo slices room lane) ending start left old new
Does (Some (job.Balance slices most)) ending source_failed start left old new =
    Balances ending slices most start left old new
Does (Some job.Save) ending source_failed start left old new = Saves ending start left old new
Does (Some job.Resume) ending source_failed start left old new = Resumes ending source_failed start left old new

-- Where nothing failed and the octets end as they should, a job is done, unless memory ran out.
abbrev pub Completes : Option Job → Status → Option (List ℕ) → Type 0
Completes None ending start = Unit {0}
Completes (Some job.Solo) ending start =
    (octets : List ℕ) → start ≡ Some octets → (input_of octets).stop ≡ ended → IsDone ending
Completes (Some (job.Drive lanes turns places)) ending start =
    (octets : List ℕ) → start ≡ Some octets → (input_of octets).stop ≡ ended → IsDone ending
Completes (Some (job.Replay lanes patience linger places)) ending start =
    (octets : List ℕ) → start ≡ Some octets → (input_of octets).stop ≡ ended → IsDone ending
Completes (Some (job.Make seed subs lines summary)) ending start = IsDone ending
Completes (Some job.Import) ending start =
    (octets : List ℕ) → start ≡ Some octets → capture.stop_of octets ≡ capture.ended → IsDone ending
Completes (Some job.Export) ending start =
    (octets : List ℕ) → start ≡ Some octets → (input_of octets).stop ≡ ended → IsDone ending
Completes (Some (job.Audit solo slices room lane why)) ending start =
    (octets : List ℕ) → start ≡ Some octets → (texts.texts_of octets).stop ≡ texts.ended → (found : Option ℕ)
    → Finds (audit_setup solo slices room lane) (texts.texts_of octets).lines found → Settles found ending
Completes (Some (job.Along solo slices room lane why)) ending start =
    (octets : List ℕ) → start ≡ Some octets → (texts.texts_of octets).stop ≡ texts.ended
    → AreJudged (audit_setup solo slices room lane) (texts.texts_of octets).lines ending
Completes (Some (job.Balance slices most)) ending start =
    (octets : List ℕ) → start ≡ Some octets → (texts.texts_of octets).stop ≡ texts.ended
    → IsTrace (texts.texts_of octets).lines → ¬ HasNoEntry (report_texts (texts.texts_of octets).lines) → IsDone ending
Completes (Some job.Save) ending start =
    (octets : List ℕ) → start ≡ Some octets → (input_of octets).stop ≡ ended → IsDone ending
Completes (Some job.Resume) ending start = CompletesResume ending start
