use Rattle.subscriber.proofs.SubscriberLemmas.{commands_stay, packets_stay}
use Rattle.subscriber.proofs.parts_laws.subscribers_stay_alike.Goals as goal

pub returns : goal.returns
returns c = record { commands = commands_stay; packets = packets_stay }
