use Rattle.report_laws.proofs.OneThread.{entries_shown}
use Rattle.report_laws.proofs.WithoutPlaces.{left_out}
use Rattle.report_laws.proofs.shown.places_may_be_left_out.Goals as goal

pub returns-clause-lawful : goal.returns-clause-lawful
returns-clause-lawful c = left_out

pub returns-clause-entries : goal.returns-clause-entries
returns-clause-entries c = entries_shown
