use Rattle.std.proofs.Common.{◌+◌, ◌-◌, length}
use Rattle.epoch_schedule.specs.World.{fresh_control}
use Rattle.epoch_schedule.proofs.Grown.{Grows}
use Rattle.epoch_schedule.proofs.grow.grow_control.Given as goal

abbrev pub invariant-loop-alloc : goal.invariant-loop-alloc
invariant-loop-alloc l = Grows fresh_control l.fn.controls.items l.controls.items l.slice

abbrev pub decreases-loop-alloc : goal.decreases-loop-alloc
decreases-loop-alloc l = l.slice + 1 - length l.controls.items
