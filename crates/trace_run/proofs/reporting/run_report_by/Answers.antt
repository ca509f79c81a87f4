use Rattle.trace_run.proofs.TakeLemmas.{runs_here}
use Rattle.trace_run.proofs.reporting.run_report_by.Goals as goal

pub returns-clause-runs : goal.returns-clause-runs
returns-clause-runs g c = runs_here _ _ _ _ (g.L.LineReader.holds c.args.reader.now) _ _ _ _ c.requires.reader c.run_report_behind.ensures.runs
