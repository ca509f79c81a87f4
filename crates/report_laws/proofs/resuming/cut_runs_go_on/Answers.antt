use Rattle.report_laws.proofs.CutRuns.{cut_runs}
use Rattle.report_laws.proofs.resuming.cut_runs_go_on.Goals as goal

pub returns : goal.returns
returns c = cut_runs c.resumed_runs_go_on.ensures
