use Rattle.std.proofs.Common.{◌≡◌, [], IfOk, if◌then◌else◌, length, refl, sym, subst}
use Rattle.lawful_run.specs.Outcomes.{opens}
use Rattle.lawful_run.specs.Run.{by_slot}
use Rattle.audit_core.proofs.piece.opens_asked.Goals as goal

pub returns-then-last : goal.returns-then-last
returns-then-last c = λ histories standing.
    subst (λ b. IfOk c.opens_due.result (λ all. all.items
    ≡ (if b then by_slot (length c.args.subscribers.now) (λ slot. opens slot (histories slot)) else [])))
    (sym c.if-last.true) (c.opens_due.ensures histories standing)

pub returns-else-last : goal.returns-else-last
returns-else-last c = λ histories standing.
    subst (λ b. c.new.result.items ≡ (if b then by_slot (length c.args.subscribers.now) (λ slot. opens slot (histories slot)) else []))
    (sym c.if-last.false) c.new.ensures.items
