use Rattle.pepc.proofs.AuditReports.{audits_are}
use Rattle.pepc.proofs.audit.audit.Goals as goal

pub returns-clause-audits : goal.returns-clause-audits
returns-clause-audits g c = rw c.status_of.ensures.status (audits_are _ _ c.audit.result _ _ _ _ c.audit.ensures.audits)
