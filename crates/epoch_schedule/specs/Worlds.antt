-- The world that the code's numbers are, and the setup of an epoch.

use Rattle.epoch_schedule.specs.World.{World}
use Rattle.epoch_schedule.specs.DataTurns as turn
use Rattle.epoch_schedule.specs.declared.world.Numbers.{Numbers}
use Rattle.epoch_schedule.specs.declared.standing.Going.{Going}
use Rattle.epoch_schedule.specs.declared.standing.Going.TheVariants as going

abbrev pub world_of : Numbers → World
world_of numbers = record {
  slots = numbers.slots.items;
  controls = numbers.controls.items;
  datas = numbers.datas.items;
}

-- how a data worker's turn goes on
abbrev pub going_of : Going → turn.Going
going_of going.More = turn.more
going_of going.Round = turn.round
going_of going.Over = turn.over
