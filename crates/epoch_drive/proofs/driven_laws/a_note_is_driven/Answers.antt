use Rattle.epoch_drive.proofs.NotedEpoch.{note_is_driven}
use Rattle.epoch_drive.proofs.driven_laws.a_note_is_driven.Goals as goal

pub returns : goal.returns
returns c = note_is_driven
