use Rattle.std.proofs.Common.{refl, arith}
use Rattle.audit_core.proofs.TakenLemmas.{takes_stop}
use Rattle.audit_core.proofs.trace.Trace.stop.Goals as goal

pub returns-in_ok-push-in-Field-clause-takes : goal.returns-in_ok-push-in-Field-clause-takes
returns-in_ok-push-in-Field-clause-takes c = λ slices number done takes.
    takes_stop c.args.self.now _ slices number done c.args.why _ takes refl refl refl refl refl refl refl
    c.in_ok-push-in-Field.ensures.items c.in_ok-note-in-Field.ensures refl
    (let a = c.args.self.now.kept.ok in omega (arith, c.requires.few))
