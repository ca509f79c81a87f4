use Rattle.std.proofs.Common.{◌↔◌, ◌||◌, not, true, IsTrue, sym, subst}
use Rattle.std.specs.List.{Contains}
use Rattle.audit_core.specs.Charges.{IsTooMany}
use Rattle.audit_core.proofs.ItemBreaks.{too_many_by}
use Rattle.audit_core.proofs.charges.is_too_many.Goals as goal

pub returns-then-again : goal.returns-then-again
returns-then-again c =
    let before = c.args.before.now in
    let charge = c.args.charge.now in
    let due = c.args.due.now in
    let many : IsTrue true ↔ IsTooMany due before charge =
    subst (λ a. IsTrue (a || not c.is_one-known.result) ↔ IsTooMany due before charge) c.if-again.true
    (too_many_by c.is_one-again.result c.is_one-known.result (Contains before charge) (Contains due charge)
    c.is_one-again.ensures c.is_one-known.ensures) in
    subst (λ a. IsTrue a ↔ IsTooMany due before charge) (sym c.if-again.true) many

pub returns-else-again : goal.returns-else-again
returns-else-again c =
    let before = c.args.before.now in
    let charge = c.args.charge.now in
    let due = c.args.due.now in
    subst (λ a. IsTrue (a || not c.is_one-known.result) ↔ IsTooMany due before charge) c.if-again.false
    (too_many_by c.is_one-again.result c.is_one-known.result (Contains before charge) (Contains due charge)
    c.is_one-again.ensures c.is_one-known.ensures)
