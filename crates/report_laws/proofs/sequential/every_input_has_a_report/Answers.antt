use Rattle.report_laws.proofs.OctetsConfirmed.{lines_few}
use Rattle.report_laws.proofs.SoloExists.{solo_exists}
use Rattle.report_laws.proofs.sequential.every_input_has_a_report.Goals as goal

pub returns : goal.returns
returns c = solo_exists lines_few
