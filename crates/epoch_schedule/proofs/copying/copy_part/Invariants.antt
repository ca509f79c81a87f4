use Rattle.std.proofs.Common.{◌≡◌, take}
use Rattle.epoch_schedule.specs.Rosters.{present}
use Rattle.epoch_schedule.proofs.copying.copy_part.Given as goal

abbrev pub invariant-loop-index : goal.invariant-loop-index
invariant-loop-index l = l.fresh ≡ record l.fn.fresh { held = present (take l.index l.halves) }
