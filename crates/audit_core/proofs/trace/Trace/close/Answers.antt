use Rattle.std.proofs.Common.{◌≡◌, ◌++◌, ◌∷◌, [], length, refl, ap, ◌∙◌, arith}
use Rattle.audit_core.proofs.TakenLemmas.{closed_already, closed_now}
use Rattle.audit_core.proofs.trace.Trace.close.Goals as goal

pub returns-then-self-eq0-clause-closed : goal.returns-then-self-eq0-clause-closed
returns-then-self-eq0-clause-closed c = λ slices done stop takes.
    closed_already c.args.self.now c.args.self.now slices done stop takes c.if-self-eq0.true

pub returns-clause-closed : goal.returns-clause-closed
returns-clause-closed c = λ slices done stop takes.
    let place : c.len.result ≡ length c.args.self.now.kept.items =
    let a = c.args.self.now.kept.ok in omega (arith, c.len.ensures) in
    closed_now c.args.self.now _ slices done stop takes c.if-self-eq0.false refl refl refl refl refl
    (c.in_ok-push.ensures.items ∙ ap (λ n. c.args.self.now.ends.items ++ n ∷ []) place) refl
