use Rattle.std.proofs.Common.{false, ap, arith}
use Rattle.record_codec.specs.Saved.{FileState}
use Rattle.solo_command.specs.Reports.{IsResumed}
use Rattle.pepc.proofs.ResumeReports.{runs_behind, runs_wider}
use Rattle.pepc.proofs.resume.go_on.Goals as goal

pub run_report_behind-requires-clause-low : goal.run_report_behind-requires-clause-low
run_report_behind-requires-clause-low g c = omega (arith, c.file.invariant.0.lines)

pub returns-clause-runs : goal.returns-clause-runs
returns-clause-runs g c =
    runs_behind (IsResumed 64 c.args.file) false c.args.file _ _ _ _ _ _ _ _ _
    (ap (λ (f : FileState). f.lines) c.file.view_is) (ap (λ (f : FileState). f.moment) c.file.view_is)
    (runs_wider _ (IsResumed 64 c.args.file) (λ input report gives. record {
      gateway = _;
      has_state = c.behind-resumer.ensures.gateway;
      gives = gives;
    }) _ _ _ _ _ _ _ _ c.run_report_behind.ensures.runs)
