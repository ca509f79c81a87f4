use Rattle.lane_core.proofs.Rules.{sends, waits}
use Rattle.lane_core.proofs.ends.Sender.offer.Goals as goal

pub push_as-requires-clause-rule : goal.push_as-requires-clause-rule
push_as-requires-clause-rule g c =
    let may = c.args.self.now.sends in
    (sends g.T.Carried.follows _ _ _ _ may c.requires.few c.requires.follows, waits g.T.Carried.follows _ _ may)
