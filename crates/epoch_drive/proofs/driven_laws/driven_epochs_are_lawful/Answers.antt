use Rattle.epoch_drive.proofs.Lawful.{driven_lawful}
use Rattle.epoch_drive.proofs.driven_laws.driven_epochs_are_lawful.Goals as goal

pub returns : goal.returns
returns c = driven_lawful
