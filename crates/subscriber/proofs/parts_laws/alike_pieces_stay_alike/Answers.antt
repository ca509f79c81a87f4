use Rattle.subscriber.proofs.PieceLemmas.{pieces_stay_alike}
use Rattle.subscriber.proofs.parts_laws.alike_pieces_stay_alike.Goals as goal

pub returns : goal.returns
returns c = pieces_stay_alike
