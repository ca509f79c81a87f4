use Rattle.std.proofs.Common.{◌∙◌, IfOk, IfSome, Some, sym, subst}
use Rattle.audit_core.specs.Dues.{IsOther, entry_due}
use Rattle.audit_core.proofs.WhyFound.{none_weaker}
use Rattle.audit_core.proofs.order.EntryOrder.told_differs.Goals as goal

pub at-requires : goal.at-requires
at-requires c = (c.requires.0, c.requires.2.texts, c.requires.2.taken, c.requires.2.all)

pub returns-in-Some-clause-some : goal.returns-in-Some-clause-some
returns-in-Some-clause-some c = λ made entries held.
    let told = sym c.in-Some.is ∙ c.in_ok-told.ensures made held.texts entries held.taken held.are in
    subst (λ o. IfOk c.entry_differs.result (λ found. IfSome found (IsOther o (entry_due c.args.due.now)))) told
    c.entry_differs.ensures.some

pub returns-in-Some-clause-none : goal.returns-in-Some-clause-none
returns-in-Some-clause-none c = λ made entries held.
    let told = sym c.in-Some.is ∙ c.in_ok-told.ensures made held.texts entries held.taken held.are in
    none_weaker c.entry_differs.result (λ is. sym told ∙ (λ i. Some (is i))) c.entry_differs.ensures.none

pub returns-in_ok-entry_missing-in-None-clause-some : goal.returns-in_ok-entry_missing-in-None-clause-some
returns-in_ok-entry_missing-in-None-clause-some c = λ made entries held.
    let told = sym c.in-None.is ∙ c.in_ok-told.ensures made held.texts entries held.taken held.are in
    subst (λ o. IsOther o (entry_due c.args.due.now) c.in_ok-entry_missing-in-None.field-0) told c.in_ok-entry_missing-in-None.ensures
