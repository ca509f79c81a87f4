use Rattle.subscriber.proofs.PlaceLemmas.{made_alike}
use Rattle.subscriber.proofs.parts_laws.made_ones_are_alike.Goals as goal

pub returns : goal.returns
returns c = made_alike
