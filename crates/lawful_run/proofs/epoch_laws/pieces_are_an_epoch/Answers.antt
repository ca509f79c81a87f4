use Rattle.lawful_run.proofs.Joining.{pieces_join}
use Rattle.lawful_run.proofs.epoch_laws.pieces_are_an_epoch.Goals as goal

pub returns : goal.returns
returns c = pieces_join
