use Rattle.lane_core.proofs.Rules.{takes, takes_none}
use Rattle.lane_core.proofs.ends.Receiver.pop.Goals as goal

pub pop_as-requires-clause-rule : goal.pop_as-requires-clause-rule
pop_as-requires-clause-rule g c =
    let may = c.args.self.now.takes_here in (takes g.T.Carried.follows _ _ may, takes_none g.T.Carried.follows _ _ may)
