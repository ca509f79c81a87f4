use Rattle.std.proofs.Common.{ap}
use Rattle.audit_core.specs.Passing.{last_behind}
use Rattle.audit_core.proofs.counts.last_behind.Goals as goal

pub returns-in-Some : goal.returns-in-Some
returns-in-Some c = λ slot now is it. ap (last_behind c.args.last) (c.in-Some.ensures slot now is it)

pub returns-in-None : goal.returns-in-None
returns-in-None c = λ slot now is it. ap (last_behind c.args.last) (c.in-None.ensures slot now is it)
