use Rattle.std.proofs.Common.{◌≡◌, ◌+◌, length, sym, ap, ◌∙◌}
use Rattle.pc_outside.specs.declared.writing.Unwritten.TheVariants.{WriteFault}
use Rattle.trace_run.specs.declared.reporting.Epochs.{Epochs}
use Rattle.trace_run.proofs.ReportingLemmas.{begins_at, cuts_run_as, ends_cut, ends_unwritten, ends_whole}
use Rattle.trace_run.proofs.reporting.run_report_behind.Goals as goal

pub returns-in-Err-clause-runs : goal.returns-in-Err-clause-runs
returns-in-Err-clause-runs g c =
    rw c.status_without.ensures
    (cuts_run_as (g.R.Reporter.begins c.args.reporter) _ _ _
    (λ (now : Epochs g.row.R.Denot). g.R.Reporter.represents c.args.reporter now.reporter) (λ now. now.size)
    (λ now. now.text) c.in-Err.why _ _ _ _ _ c.requires.begins
    (rw c.behind-epochs.ensures.same at c.in-Err.ensures.cut))

pub returns-in-Err-finish-clause-runs : goal.returns-in-Err-finish-clause-runs
returns-in-Err-finish-clause-runs g c =
    let end = rw c.behind-epochs.ensures.same at c.in-Ok.ensures.ended in
    ends_unwritten _ _ _ _ _ _ _ _ _ _ _ end.done (begins_at _ c.in-Ok.end.0 _ _ end.done end.reached)
    (rw c.requires.begins at end.stands)

pub returns-in-Ok-write_text-clause-runs : goal.returns-in-Ok-write_text-clause-runs
returns-in-Ok-write_text-clause-runs g c =
    let end = rw c.behind-epochs.ensures.same at c.in-Ok.ensures.ended in
    rw c.status_at.ensures
    (ends_whole _ _ _ c.in-Ok.end.0 _ _ _ _ _ _ end.done end.stands.sent c.finish.new.self.text end.reached
    (rw c.requires.begins at (c.in-Ok-finish.ensures c.args.reporter end.done end.latest end.stands.sent
    end.stands.standing (end.counted ∙ ap (λ n. length end.done + n) (sym c.requires.begins))))
    end.stands.written c.in-Ok-write_text.ensures.whole)

pub returns-clause-runs : goal.returns-clause-runs
returns-clause-runs g c =
    let end = rw c.behind-epochs.ensures.same at c.in-Ok.ensures.ended in
    let why_is : c.in-Err-write_text.why ≡ WriteFault = cc (c.in-Err-write_text.ensures.no_other) in
    rw (c.status_without-in-Err-write_text.ensures, why_is)
    (ends_cut _ _ _ c.in-Ok.end.0 _ _ _ _ _ _ end.done end.stands.sent c.finish.new.self.text c.in-Ok.ensures.read_fault
    end.reached
    (rw c.requires.begins at (c.in-Ok-finish.ensures c.args.reporter end.done end.latest end.stands.sent
    end.stands.standing (end.counted ∙ ap (λ n. length end.done + n) (sym c.requires.begins))))
    end.stands.written c.in-Err-write_text.ensures.cut)
