use Rattle.audit_core.proofs.WholeRuns.{no_as_joined, yes_as_joined}
use Rattle.audit_core.proofs.joined_laws.along_as_joined.Goals as goal

pub returns : goal.returns
returns c = record { yes = yes_as_joined; no = no_as_joined }
