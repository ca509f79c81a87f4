use Rattle.gate_model.proofs.FewCharges.{events_few, commands_follow, few_held}
use Rattle.gate_model.proofs.laws.few_events_are_few.Goals as goal

pub returns : goal.returns
returns c = record { charged = events_few; follows = commands_follow; held = few_held }
