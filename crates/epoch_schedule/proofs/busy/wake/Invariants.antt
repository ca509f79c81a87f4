use Rattle.epoch_schedule.specs.Worlds.{world_of}
use Rattle.epoch_schedule.proofs.Busying.{Waking}
use Rattle.epoch_schedule.proofs.busy.wake.Given as goal

abbrev pub invariant-loop-slice : goal.invariant-loop-slice
invariant-loop-slice l = Waking (world_of l.numbers) l.slot l.fn.busy.items l.busy.items l.slice
