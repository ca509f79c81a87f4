use Rattle.report_laws.proofs.OneSaved.{one_saved}
use Rattle.report_laws.proofs.single.one_saved_text.Goals as goal

pub returns : goal.returns
returns c = one_saved
