use Rattle.epoch_drive.proofs.RunsLawful.{runs_lawful}
use Rattle.epoch_drive.proofs.driven_laws.driven_runs_are_lawful.Goals as goal

pub returns : goal.returns
returns c = runs_lawful
