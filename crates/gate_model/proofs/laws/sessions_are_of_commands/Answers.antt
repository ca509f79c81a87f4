use Rattle.gate_model.proofs.Following.{sessions_are, versions_are}
use Rattle.gate_model.proofs.laws.sessions_are_of_commands.Goals as goal

pub returns : goal.returns
returns c = record { sessions = sessions_are; versions = versions_are }
