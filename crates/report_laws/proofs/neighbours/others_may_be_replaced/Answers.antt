use Rattle.report_laws.proofs.LineLemmas.{may_be_replaced}
use Rattle.report_laws.proofs.neighbours.others_may_be_replaced.Goals as goal

pub returns : goal.returns
returns c = may_be_replaced
