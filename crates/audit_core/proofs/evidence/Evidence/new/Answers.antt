use Rattle.std.proofs.Common.{refl, arith}
use Rattle.audit_core.proofs.EvidenceTakes.{heard_none}
use Rattle.audit_core.proofs.evidence.Evidence.new.Goals as goal

pub returns-clause-nothing : goal.returns-clause-nothing
returns-clause-nothing c = heard_none _ c.requires refl c.new-2.ensures.taken c.new-3.ensures.taken

pub returns-clause-weight : goal.returns-clause-weight
returns-clause-weight c = omega (arith, c.new-2.ensures.weight, c.new-3.ensures.count)
