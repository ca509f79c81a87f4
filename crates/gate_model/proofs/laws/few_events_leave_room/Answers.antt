use Rattle.gate_model.proofs.RoomLemmas.{room_left}
use Rattle.gate_model.proofs.laws.few_events_leave_room.Goals as goal

pub returns : goal.returns
returns c = room_left
