use Rattle.report_laws.proofs.OctetsConfirmed.{entries_of_octets}
use Rattle.report_laws.proofs.told.entries_are_in_range.Goals as goal

pub returns : goal.returns
returns c = entries_of_octets
