use Rattle.std.proofs.Common.{subst, ap}
use Rattle.audit_core.specs.Along.{GoesAlong}
use Rattle.audit_core.specs.Setups.{setup_of}
use Rattle.audit_core.proofs.AlongTold.{none_along}
use Rattle.audit_core.proofs.along.audit_along.Goals as goal

pub returns-in-Ok-clause-goes : goal.returns-in-Ok-clause-goes
returns-in-Ok-clause-goes g c = rw (← c.new-pieces.ensures.setup) c.go_along.ensures.goes

pub returns-clause-goes : goal.returns-clause-goes
returns-clause-goes g c = none_along c.args.why (setup_of c.args.setup.now) _ _
