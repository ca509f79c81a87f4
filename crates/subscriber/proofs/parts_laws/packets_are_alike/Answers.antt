use Rattle.subscriber.proofs.PlanLemmas.{packets_are_alike}
use Rattle.subscriber.proofs.parts_laws.packets_are_alike.Goals as goal

pub returns : goal.returns
returns c = packets_are_alike
