use Rattle.epoch_drive.proofs.One.{one_driven}
use Rattle.epoch_drive.proofs.RunsLawful.{one_run}
use Rattle.epoch_drive.proofs.driven_laws.one_is_driven.Goals as goal

pub returns : goal.returns
returns c = record { epoch = one_driven; run = one_run }
