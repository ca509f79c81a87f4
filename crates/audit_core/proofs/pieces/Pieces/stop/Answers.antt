use Rattle.std.proofs.Common.{refl}
use Rattle.audit_core.proofs.PieceTaken.{takes_stop}
use Rattle.audit_core.proofs.pieces.Pieces.stop.Goals as goal

pub returns-in_ok-push-in-Field-clause-takes : goal.returns-in_ok-push-in-Field-clause-takes
returns-in_ok-push-in-Field-clause-takes c = λ known number lines takes.
    takes_stop c.args.self.now _ known lines number c.args.why _ takes refl refl refl refl refl refl refl
    c.in_ok-push-in-Field.ensures.items c.in_ok-note-in-Field.ensures
