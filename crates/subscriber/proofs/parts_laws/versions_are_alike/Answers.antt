use Rattle.subscriber.proofs.BroughtLemmas.{versions_are_alike}
use Rattle.subscriber.proofs.PlaceLemmas.{sessions_keep}
use Rattle.subscriber.proofs.parts_laws.versions_are_alike.Goals as goal

pub returns : goal.returns
returns c = record { alike = versions_are_alike; places = sessions_keep }
