use Rattle.audit_core.proofs.auditing.told.Goals as goal

pub finding_of-requires : goal.finding_of-requires
finding_of-requires c = c.requires
