use Rattle.report_laws.proofs.OctetsTold.{told_have_octets}
use Rattle.report_laws.proofs.told.told_have_octets.Goals as goal

pub returns : goal.returns
returns c = told_have_octets
