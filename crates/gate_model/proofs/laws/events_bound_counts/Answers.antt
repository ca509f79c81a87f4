use Rattle.gate_model.proofs.RoomLemmas.{counts_within}
use Rattle.gate_model.proofs.laws.events_bound_counts.Goals as goal

pub returns : goal.returns
returns c = counts_within
