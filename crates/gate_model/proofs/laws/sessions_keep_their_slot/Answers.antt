use Rattle.gate_model.proofs.SlotLemmas.{slot_stays}
use Rattle.gate_model.proofs.laws.sessions_keep_their_slot.Goals as goal

pub returns : goal.returns
returns c = slot_stays
