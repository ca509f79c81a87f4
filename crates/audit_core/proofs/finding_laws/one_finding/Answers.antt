use Rattle.audit_core.proofs.OneFinding.{one_finding}
use Rattle.audit_core.proofs.finding_laws.one_finding.Goals as goal

pub returns : goal.returns
returns c = one_finding
