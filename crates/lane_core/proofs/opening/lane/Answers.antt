use Rattle.std.proofs.Common.{rules}
use Rattle.lane_core.proofs.Rules.{begins, parts}
use Rattle.lane_core.proofs.opening.lane.Goals as goal

pub ruled-requires-clause-rule : goal.ruled-requires-clause-rule
ruled-requires-clause-rule g c = begins g.T.Carried.follows

pub another-theirs-requires-clause-rule : goal.another-theirs-requires-clause-rule
another-theirs-requires-clause-rule g c = parts g.T.Carried.follows _ _ (search rules) (search rules)
