use Rattle.std.proofs.Common.{take}
use Rattle.at_rest.specs.Rest.{Rest}
use Rattle.epoch_drive.specs.Taken.{HasTaken, IsResting}
use Rattle.epoch_drive.proofs.whole.take_all.Given as goal

abbrev pub invariant-loop-line : goal.invariant-loop-line
invariant-loop-line l =
    (rest : Rest) → IsResting rest l.fn.gateway → HasTaken rest (take l.line-index l.lines) l.gateway l.kept
