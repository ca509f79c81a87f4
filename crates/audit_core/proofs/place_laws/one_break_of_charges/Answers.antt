use Rattle.audit_core.proofs.OneBreak.{one_break}
use Rattle.audit_core.proofs.place_laws.one_break_of_charges.Goals as goal

pub returns : goal.returns
returns c = one_break
