use Rattle.std.proofs.Common.{rules, refl}
use Rattle.audit_core.proofs.TakenLemmas.{leaves_none, taken_none, takes_none}
use Rattle.audit_core.proofs.trace.Trace.new.Goals as goal

pub returns-clause-taken : goal.returns-clause-taken
returns-clause-taken c =
    taken_none _ c.args.slices
    (takes_none _ c.args.slices
    (leaves_none _ c.args.slices refl c.requires.least c.requires.most (search rules) (search rules)) (search rules)
    (search rules) refl refl refl) refl refl
