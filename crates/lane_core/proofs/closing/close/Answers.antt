use Rattle.std.proofs.Common.{rules}
use Rattle.lane_core.proofs.Rules.{joins, rests}
use Rattle.lane_core.proofs.closing.close.Goals as goal

pub absorb-requires-clause-rule : goal.absorb-requires-clause-rule
absorb-requires-clause-rule g c = joins g.T.Carried.follows _ _ _ _ c.args.tx.sends c.args.rx.takes_here

pub len_as-requires-clause-rule : goal.len_as-requires-clause-rule
len_as-requires-clause-rule g c = rests g.T.Carried.follows _ _ (search rules) (search rules)
