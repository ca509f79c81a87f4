use Rattle.epoch_schedule.specs.Worlds.{world_of}
use Rattle.epoch_schedule.proofs.Passes.{Found}
use Rattle.epoch_schedule.proofs.passing.next_of.Given as goal

abbrev pub invariant-loop-lane : goal.invariant-loop-lane
invariant-loop-lane l = Found l.pass l.setup.rooms (world_of l.numbers) l.waits l.from l.next l.lane
