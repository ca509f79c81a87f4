use Rattle.report_laws.proofs.RunConfirmed.{run_confirmed, run_never_refuted}
use Rattle.report_laws.proofs.confirming.own_run_is_confirmed.Goals as goal

pub returns-clause-done : goal.returns-clause-done
returns-clause-done c = run_confirmed c.each_report_is_lawful.ensures

pub returns-clause-never : goal.returns-clause-never
returns-clause-never c = run_never_refuted c.each_report_is_lawful.ensures
