use Rattle.report_laws.proofs.OneResumed.{one_report}
use Rattle.report_laws.proofs.OneResumedRun.{one_text}
use Rattle.report_laws.proofs.single.one_resumed_report.Goals as goal

pub returns-clause-report : goal.returns-clause-report
returns-clause-report c = one_report

pub returns-clause-text : goal.returns-clause-text
returns-clause-text c = one_text c.states_are_told.ensures.one
