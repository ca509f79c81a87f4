use Rattle.lawful_run.proofs.AsTold.{stand_as_told}
use Rattle.lawful_run.proofs.laws.events_stand_as_told.Goals as goal

pub returns : goal.returns
returns c = stand_as_told
