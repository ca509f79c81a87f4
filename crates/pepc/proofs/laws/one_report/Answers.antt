use Rattle.pepc.proofs.OneReport.{one_report}
use Rattle.pepc.proofs.laws.one_report.Goals as goal

pub returns : goal.returns
returns c = one_report
