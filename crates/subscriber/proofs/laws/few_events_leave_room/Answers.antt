use Rattle.subscriber.proofs.CountLemmas.{room_behind}
use Rattle.subscriber.proofs.laws.few_events_leave_room.Goals as goal

pub returns : goal.returns
returns c = room_behind c.events_bound_counts.ensures
