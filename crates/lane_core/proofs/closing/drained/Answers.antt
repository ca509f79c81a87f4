use Rattle.lane_core.proofs.Rules.{drains, rests}
use Rattle.lane_core.proofs.closing.drained.Goals as goal

pub pop_as-requires-clause-rule : goal.pop_as-requires-clause-rule
pop_as-requires-clause-rule g c =
    let now = c.loop-item.invariant in
    (drains g.T.Carried.follows _ _ now.1 now.2, rests g.T.Carried.follows _ _ now.1 now.2)
