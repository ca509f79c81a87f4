use Rattle.std.proofs.Common.{[], length, get_or}
use Rattle.epoch_schedule.specs.ControlTurns.{work_all}
use Rattle.epoch_schedule.specs.Worlds.{world_of}
use Rattle.epoch_schedule.proofs.Skipped.{Working}
use Rattle.epoch_schedule.proofs.turning.work_busy.Given as goal

abbrev pub invariant-loop-numbers : goal.invariant-loop-numbers
invariant-loop-numbers l =
    Working l.busy.items l.setup.rooms l.slice (work_all l.setup.rooms l.slice (world_of l.fn.numbers)) (world_of l.numbers)

abbrev pub decreases-loop-numbers : goal.decreases-loop-numbers
decreases-loop-numbers l = length (get_or l.busy.items l.slice [])
