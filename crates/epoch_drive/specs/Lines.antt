-- The rooms of a gateway at rest.
use Rattle.epoch_schedule.specs.World.{Rooms}
use Rattle.at_rest.specs.Rest.{Rest}

-- the rooms of queues and lanes
abbrev pub rooms_of : Rest → Rooms
rooms_of rest = record { room = rest.room; lane = rest.lane }
