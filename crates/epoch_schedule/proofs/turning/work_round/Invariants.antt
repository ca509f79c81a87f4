use Rattle.std.proofs.Common.{◌≡◌}
use Rattle.epoch_schedule.specs.ControlTurns.{work_round}
use Rattle.epoch_schedule.specs.Worlds.{world_of}
use Rattle.epoch_schedule.proofs.turning.work_round.Given as goal

abbrev pub invariant-loop-left : goal.invariant-loop-left
invariant-loop-left l =
    work_round l.setup.rooms l.slice l.place l.left (world_of l.numbers)
    ≡ work_round l.setup.rooms l.slice l.first l.count (world_of l.fn.numbers)

abbrev pub decreases-loop-left : goal.decreases-loop-left
decreases-loop-left l = l.left
