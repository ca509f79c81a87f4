use Rattle.at_rest.proofs.Resting.{room_left}
use Rattle.at_rest.proofs.laws.rest_leaves_room.Goals as goal

pub returns : goal.returns
returns c = room_left c.few_events_leave_room.ensures
