use Rattle.lawful_run.proofs.NotedEpoch.{note_is_lawful}
use Rattle.lawful_run.proofs.laws.a_note_is_lawful.Goals as goal

pub returns : goal.returns
returns c = note_is_lawful
