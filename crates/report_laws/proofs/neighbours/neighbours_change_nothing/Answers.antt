use Rattle.report_laws.proofs.Cuts.{nor_in_any_epoch}
use Rattle.report_laws.proofs.Same.{neighbours_change_nothing}
use Rattle.report_laws.proofs.neighbours.neighbours_change_nothing.Goals as goal

pub returns : goal.returns
returns c = record { all = neighbours_change_nothing; epochs = nor_in_any_epoch }
