use Rattle.std.proofs.Common.{◌∙◌, arith}
use Rattle.epoch_schedule.proofs.SlotSets.{trimmed}
use Rattle.epoch_schedule.proofs.waiting.trim.Goals as goal

pub loop-lanes-preserved : goal.loop-lanes-preserved
loop-lanes-preserved c = λ other.
    trimmed c.loop-lanes.lanes.items _ _ c.pop.ensures.rest (omega (arith, c.loop-lanes.lanes.ok.0))
    c.loop-lanes-test.ensures.none other
    ∙ c.loop-lanes.invariant other
