use Rattle.std.proofs.Common.{◌≡◌, ◌∙◌, Some, map, sym, subst}
use Rattle.std.specs.String.{string_bytes}
use Rattle.command_words.specs.Job.{job_of}
use Rattle.pc_outside.specs.Faults.{Rises}
use Rattle.pepc.specs.Jobs.{Completes, plain_job, without_threads}
use Rattle.pepc.proofs.JobLemmas.{nothing_completes, nothing_done, plain_completes}
use Rattle.pepc.proofs.plain.run_plain.Goals as goal

pub returns-in-Err-clause-report : goal.returns-in-Err-clause-report
returns-in-Err-clause-report g c =
    let faults = g.S.Source.faults c.args.source.now in
    nothing_done (plain_job (job_of (map string_bytes c.args.arguments.now))) (Rises faults faults)
    (g.S.Source.left c.args.source.now) (g.K.Sink.written c.args.sink.now)

pub returns-in-Err-clause-complete : goal.returns-in-Err-clause-complete
returns-in-Err-clause-complete g c = λ no_source no_sink.
    nothing_completes (plain_job (job_of (map string_bytes c.args.arguments.now))) (g.S.Source.left c.args.source.now)

pub returns-in-Ok-Some-clause-complete : goal.returns-in-Ok-Some-clause-complete
returns-in-Ok-Some-clause-complete g c =
    let is : Some c.in-Ok-Some.asked ≡ job_of (map string_bytes c.args.arguments.now) =
    sym c.in-Ok-Some.field-0-is ∙ c.in-Ok-Some.ensures.job in
    λ no_source no_sink.
    subst (λ asked. Completes (plain_job asked) c.do_job.result (g.S.Source.left c.args.source.now)) is
    (plain_completes c.lines_say_one_state.ensures (without_threads c.in-Ok-Some.asked) c.do_job.result _ _ _ _ _ _ no_source no_sink
    c.do_job.ensures.read_fault c.do_job.ensures.write_fault c.do_job.ensures.usage c.do_job.ensures.does)
