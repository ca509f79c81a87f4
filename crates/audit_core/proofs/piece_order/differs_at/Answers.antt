use Rattle.std.proofs.Common.{◌≡◌, IfNone, IfOk, IfSome, None, Some, length, refl, sym, ap, subst, ◌∙◌, arith}
use Rattle.std.proofs.lemmas.List.{drop_all, length-map}
use Rattle.audit_core.specs.Dues.{IsOther, entry_due}
use Rattle.audit_core.specs.Matched.{entries_stood}
use Rattle.audit_core.specs.Places.{first_of}
use Rattle.audit_core.specs.declared.report.Stood.{Stood}
use Rattle.audit_core.proofs.OrderStood.{missing_at, stood_none, stood_some}
use Rattle.audit_core.proofs.piece_order.differs_at.Goals as goal

pub returns-then-at-entries-clause-some : goal.returns-then-at-entries-clause-some
returns-then-at-entries-clause-some c =
    stood_some c.args.entries.now c.args.at c.index-entries-at.result (entry_due c.args.due.now) c.entry_differs.result
    (omega arith) c.index-entries-at.is
    (subst (λ (s : Stood). IfOk c.entry_differs.result (λ found. IfSome found
    (IsOther (Some s.entry) (entry_due c.args.due.now)))) (sym c.index-entries-at.is) c.entry_differs.ensures.some)

pub returns-then-at-entries-clause-none : goal.returns-then-at-entries-clause-none
returns-then-at-entries-clause-none c =
    stood_none c.args.entries.now c.args.at c.index-entries-at.result (entry_due c.args.due.now) c.entry_differs.result
    (omega arith) c.index-entries-at.is
    (subst (λ (s : Stood). IfOk c.entry_differs.result (λ found. IfNone found
    (s.entry ≡ entry_due c.args.due.now))) (sym c.index-entries-at.is) c.entry_differs.ensures.none)

pub returns-clause-some : goal.returns-clause-some
returns-clause-some c =
    missing_at c.args.entries.now c.args.at (entry_due c.args.due.now) c.in_ok-entry_missing.field-0 (omega arith)
    c.in_ok-entry_missing.ensures
