-- Jobs that are done, and jobs that memory is missing for.
use Rattle.std.proofs.Common.{◌≡◌, ℕ, Bool, true, false, List, [], Option, None, Some, inl, inr, refl}
use Rattle.std.proofs.KnownBytes.{Appends-nil}
use Rattle.command_words.specs.declared.jobs.Job.{Job}
use Rattle.command_words.specs.declared.jobs.Job.TheVariants as job
use Rattle.trace_lines.specs.Line.{Line}
use Rattle.trace_maker.specs.Generated.{made}
use Rattle.trace_run.specs.Beginnings.{whole_input}
use Rattle.trace_run.specs.declared.status.Status.{Status}
use Rattle.trace_run.specs.declared.status.Status.TheVariants as status
use Rattle.pc_outside.specs.Texts.{texts_of}
use Rattle.pepc.specs.Audit.{audit_setup}
use Rattle.pepc.specs.Jobs.{Completes, Does, without_threads}
use Rattle.pepc.specs.Make.{IsMakePrefix, Made, Makes}
use Rattle.trace_run.specs.Report.{IsDone}
use Rattle.pepc.proofs.AlongReports.{along_complete, nothing_along, nothing_judged}
use Rattle.pepc.proofs.AuditReports.{audit_complete, nothing_audited, nothing_settles}
use Rattle.pepc.proofs.BalanceReports.{balance_complete, nothing_balanced}
use Rattle.pepc.proofs.ExportReports.{export_complete, nothing_exported}
use Rattle.pepc.proofs.ImportReports.{import_complete, nothing_imported}
use Rattle.pepc.proofs.ResumeReports.{nothing_resumed, resume_complete}
use Rattle.pepc.proofs.SaveReports.{nothing_saved, save_complete}
use Rattle.record_codec.specs.StateLaws.{LinesSayOneState}
use Rattle.solo_command.proofs.ReportLemmas.{nothing_runs}
use Rattle.trace_run.proofs.EndingLemmas.{complete, nothing_runs as nothing_told_of}
use Rattle.drive_command.specs.Driven.{IsDrivenReport}
use Rattle.drive_command.proofs.Reports.{says_nothing}
use Rattle.lawful_run.specs.Trace.{IsReport}
use Rattle.replay_command.proofs.Reports.{says_nothing as nothing_replayed}
use Rattle.command_words.specs.declared.jobs.Lanes.{Lanes}
use Rattle.pepc.specs.Drive.{schedule_asked}
use Rattle.pepc.specs.Replay.{setup_asked}
use Rattle.solo_command.specs.Report.{IsSoloReport}

no_prefix : (summary : Bool) (lines : List Line) → IsMakePrefix summary lines []
no_prefix false lines = record { prefix = []; rest = lines; parts = refl; written = refl }
no_prefix true lines = refl

nothing_made : (seed subs lines : ℕ) (summary : Bool) (old : Option (List ℕ))
    → Makes seed subs lines summary status.NoMemory old old
nothing_made seed subs lines summary old =
    record { text = []; written = Appends-nil old; is = no_prefix summary (made seed subs lines) }

-- memory ran out before anything was read
pub nothing_done : (asked : Option Job) (source_failed : Type 0) (start old : Option (List ℕ))
    → Does asked status.NoMemory source_failed start start old old
nothing_done None source_failed start old = (refl, refl)
nothing_done (Some job.Solo) source_failed start old = nothing_runs source_failed start old
nothing_done (Some (job.Drive lanes turns places)) source_failed start old =
    nothing_told_of whole_input (IsDrivenReport (schedule_asked lanes turns)) places source_failed start old
    (says_nothing (schedule_asked lanes turns) places)
nothing_done (Some (job.Replay lanes patience linger places)) source_failed start old =
    nothing_told_of whole_input (IsReport (setup_asked lanes)) places source_failed start old
    (nothing_replayed lanes.slices lanes.room lanes.lane places)
nothing_done (Some (job.Make seed subs lines summary)) source_failed start old =
    (refl, nothing_made seed subs lines summary old)
nothing_done (Some job.Import) source_failed start old = nothing_imported source_failed start old
nothing_done (Some job.Export) source_failed start old = nothing_exported source_failed start old
nothing_done (Some (job.Audit solo slices room lane why)) source_failed start old =
    nothing_audited why (audit_setup solo slices room lane) start old
nothing_done (Some (job.Along solo slices room lane why)) source_failed start old =
    nothing_along why (audit_setup solo slices room lane) start old
nothing_done (Some (job.Balance slices most)) source_failed start old = nothing_balanced slices most start old
nothing_done (Some job.Save) source_failed start old = nothing_saved start old
nothing_done (Some job.Resume) source_failed start old = nothing_resumed source_failed start old

pub nothing_completes : (asked : Option Job) (start : Option (List ℕ)) → Completes asked status.NoMemory start
nothing_completes None start = tt
nothing_completes (Some job.Solo) start = λ octets is stop. inr refl
nothing_completes (Some (job.Drive lanes turns places)) start = λ octets is stop. inr refl
nothing_completes (Some (job.Replay lanes patience linger places)) start = λ octets is stop. inr refl
nothing_completes (Some (job.Make seed subs lines summary)) start = inr refl
nothing_completes (Some job.Import) start = λ octets is stop. inr refl
nothing_completes (Some job.Export) start = λ octets is stop. inr refl
nothing_completes (Some (job.Audit solo slices room lane why)) start = λ octets is stop found finds. nothing_settles found
nothing_completes (Some (job.Along solo slices room lane why)) start = λ octets is stop.
    nothing_judged (audit_setup solo slices room lane) (texts_of octets).lines
nothing_completes (Some (job.Balance slices most)) start = λ octets is stop good each. inr refl
nothing_completes (Some job.Save) start = λ octets is stop. inr refl
nothing_completes (Some job.Resume) start = λ octets is found stop. inr refl

make_complete : (ending : Status) (sink_failed : Type 0) (summary : Bool) (lines : List Line) (text : List ℕ)
    → (sink_failed → ⊥) → (ending ≡ status.WriteFault → sink_failed) → Made ending summary lines text
    → IsDone ending
make_complete status.Ok sink_failed summary lines text no_sink write is = inl refl
make_complete status.Usage sink_failed summary lines text no_sink write is = absurd is
make_complete status.ReadFault sink_failed summary lines text no_sink write is = absurd is
make_complete status.WriteFault sink_failed summary lines text no_sink write is = absurd (no_sink (write refl))
make_complete status.NoMemory sink_failed summary lines text no_sink write is = inr refl
make_complete status.BadLine sink_failed summary lines text no_sink write is = absurd is
make_complete status.LineLong sink_failed summary lines text no_sink write is = absurd is
make_complete status.TooLong sink_failed summary lines text no_sink write is = absurd is
make_complete status.Refuted sink_failed summary lines text no_sink write is = absurd is
make_complete status.BadCapture sink_failed summary lines text no_sink write is = absurd is
make_complete status.BadState sink_failed summary lines text no_sink write is = absurd is
make_complete status.BadReport sink_failed summary lines text no_sink write is = absurd is

-- a job that ends with this status, where nothing failed
pub job_completes : LinesSayOneState → (asked : Job) (ending : Status) (source_failed sink_failed : Type 0)
    (start left old new : Option (List ℕ)) → (source_failed → ⊥) → (sink_failed → ⊥)
    → (ending ≡ status.ReadFault → source_failed) → (ending ≡ status.WriteFault → sink_failed)
    → (ending ≡ status.Usage → ⊥) → Does (Some asked) ending source_failed start left old new
    → Completes (Some asked) ending start
job_completes one_state job.Solo ending source_failed sink_failed start left old new no_source no_sink read write usage does =
    λ octets is stop.
    complete whole_input IsSoloReport false ending source_failed sink_failed octets start left old new is stop no_source no_sink read write usage does
job_completes one_state (job.Drive lanes turns places) ending source_failed sink_failed start left old new no_source no_sink read
    write usage does =
    λ octets is stop.
    complete whole_input (IsDrivenReport (schedule_asked lanes turns)) places ending source_failed sink_failed octets start left old new
    is stop no_source no_sink read write usage does
job_completes one_state (job.Replay lanes patience linger places) ending source_failed sink_failed start left old new no_source
    no_sink read write usage does =
    λ octets is stop.
    complete whole_input (IsReport (setup_asked lanes)) places ending source_failed sink_failed octets start left old new
    is stop no_source no_sink read write usage does
job_completes one_state (job.Make seed subs lines summary) ending source_failed sink_failed start left old new no_source no_sink
    read write usage does =
    make_complete ending sink_failed summary (made seed subs lines) does.1.text no_sink write does.1.is
job_completes one_state job.Import ending source_failed sink_failed start left old new no_source no_sink read write usage does =
    λ octets is stop.
    import_complete ending source_failed sink_failed octets start left old new is stop no_source no_sink read write does
job_completes one_state job.Export ending source_failed sink_failed start left old new no_source no_sink read write usage does =
    λ octets is stop.
    export_complete ending source_failed sink_failed octets start left old new is stop no_source no_sink read write does
job_completes one_state (job.Audit solo slices room lane why) ending source_failed sink_failed start left old new no_source
    no_sink read write usage does =
    λ octets is stop found finds.
    audit_complete why (audit_setup solo slices room lane) ending source_failed sink_failed octets start left old new found is
    stop no_source no_sink read write finds does
job_completes one_state (job.Along solo slices room lane why) ending source_failed sink_failed start left old new no_source
    no_sink read write usage does =
    λ octets is stop.
    along_complete why (audit_setup solo slices room lane) ending source_failed sink_failed octets start left old new is
    stop no_source no_sink read write does
job_completes one_state (job.Balance slices most) ending source_failed sink_failed start left old new no_source no_sink read write
    usage does =
    λ octets is stop good each.
    balance_complete slices most ending source_failed sink_failed octets start left old new is stop good each no_source
    no_sink read write does
job_completes one_state job.Save ending source_failed sink_failed start left old new no_source no_sink read write usage
    does =
    λ octets is stop.
    save_complete ending source_failed sink_failed octets start left old new is stop no_source no_sink read write does
job_completes one_state job.Resume ending source_failed sink_failed start left old new no_source no_sink read write
    usage does =
    resume_complete one_state ending source_failed sink_failed start left old new no_source no_sink read write usage does

-- a job that starts no threads
pub no_threads : (asked : Job) → ((lanes : Lanes) (patience linger : ℕ) (places : Bool)
    → asked ≡ job.Replay lanes patience linger places → ⊥) → without_threads asked ≡ Some asked
no_threads job.Solo none = refl
no_threads (job.Drive lanes turns places) none = refl
no_threads (job.Replay lanes patience linger places) none = absurd (none lanes patience linger places refl)
no_threads (job.Make seed subs lines summary) none = refl
no_threads job.Import none = refl
no_threads job.Export none = refl
no_threads (job.Audit solo slices room lane why) none = refl
no_threads (job.Along solo slices room lane why) none = refl
no_threads (job.Balance slices most) none = refl
no_threads job.Save none = refl
no_threads job.Resume none = refl

-- the same of what is done without threads
pub plain_completes : LinesSayOneState → (done : Option Job) (ending : Status) (source_failed sink_failed : Type 0)
    (start left old new : Option (List ℕ)) → (source_failed → ⊥) → (sink_failed → ⊥)
    → (ending ≡ status.ReadFault → source_failed) → (ending ≡ status.WriteFault → sink_failed)
    → (ending ≡ status.Usage → done ≡ None) → Does done ending source_failed start left old new
    → Completes done ending start
plain_completes one_state None ending source_failed sink_failed start left old new no_source no_sink read write usage does = tt
plain_completes one_state (Some asked) ending source_failed sink_failed start left old new no_source no_sink read write usage
    does =
    job_completes one_state asked ending source_failed sink_failed start left old new no_source no_sink read write
    (λ is. let none = usage is in cc) does
