use Rattle.std.proofs.Common.{rules, refl}
use Rattle.audit_core.proofs.ReportLemmas.{taken_nothing}
use Rattle.audit_core.proofs.report.Report.new.Goals as goal

pub returns-clause-taken : goal.returns-clause-taken
returns-clause-taken c = λ made. taken_nothing made _ refl refl (search rules) (search rules) refl refl
