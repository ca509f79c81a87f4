use Rattle.std.proofs.Common.{◌≡◌}
use Rattle.pc_outside.specs.declared.writing.Unwritten.TheVariants.{WriteFault}
use Rattle.trace_run.proofs.ReportingLemmas.{begins_at}
use Rattle.pepc.specs.declared.export.Capture.{Capture}
use Rattle.pepc.proofs.ExportLemmas.{breaks_off, sends}
use Rattle.pepc.proofs.ExportReports.{cuts_export, ends_cut, ends_whole, nothing_exported}
use Rattle.pepc.proofs.export.export.Goals as goal

pub returns-in-Err-clause-exports : goal.returns-in-Err-clause-exports
returns-in-Err-clause-exports g c =
    nothing_exported _ (g.S.Source.left c.args.source.now) (g.K.Sink.written c.args.sink.now)

pub returns-in-Err-run_lines-clause-exports : goal.returns-in-Err-run_lines-clause-exports
returns-in-Err-run_lines-clause-exports g c =
    rw c.status_without.ensures
    (cuts_export (λ (now : Capture). now.waiting) c.in-Err-run_lines.why _ _ _ _ _
    c.in-Err-run_lines.ensures.cut)

pub returns-in-Ok-write_text-clause-exports : goal.returns-in-Ok-write_text-clause-exports
returns-in-Ok-write_text-clause-exports g c =
    let end = c.in-Ok-run_lines.ensures.ended in
    rw c.status_at.ensures
    (ends_whole c.in-Ok-run_lines.ending _ _ _ _ _ _ end.done end.reached c.in-Ok-write_text.ensures.emptied
    (sends _ _ end.done _ _ _ end.stands c.in-Ok-write_text.ensures.whole c.in-Ok-write_text.ensures.emptied))

pub returns-clause-exports : goal.returns-clause-exports
returns-clause-exports g c =
    let end = c.in-Ok-run_lines.ensures.ended in
    let why_is : c.in-Err-write_text.why ≡ WriteFault = cc (c.in-Err-write_text.ensures.no_other) in
    rw (c.status_without-in-Err-write_text.ensures, why_is)
    (ends_cut _ _ _ _ _ end.done (begins_at _ c.in-Ok-run_lines.ending _ _ end.done end.reached)
    (breaks_off _ end.done _ _ _ end.stands c.in-Err-write_text.ensures.cut))
