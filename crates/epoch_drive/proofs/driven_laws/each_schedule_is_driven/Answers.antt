use Rattle.epoch_drive.proofs.RunsLawful.{run_there}
use Rattle.epoch_drive.proofs.There.{each_driven}
use Rattle.epoch_drive.proofs.driven_laws.each_schedule_is_driven.Goals as goal

pub returns : goal.returns
returns c = record { epoch = each_driven; run = run_there }
