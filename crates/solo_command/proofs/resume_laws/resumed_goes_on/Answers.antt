use Rattle.solo_command.proofs.LawLemmas.{reports_go_on}
use Rattle.solo_command.proofs.LawTexts.{texts_go_on}
use Rattle.solo_command.proofs.resume_laws.resumed_goes_on.Goals as goal

pub returns : goal.returns
returns c = record { reports = reports_go_on; texts = texts_go_on }
