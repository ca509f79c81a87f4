use Rattle.std.proofs.Common.{inl, arith}
use Rattle.std.specs.Borrow.{Bor}
use Rattle.std.proofs.lemmas.List.{length-map}
use Rattle.report_lines.specs.declared.entry.ChargeEntry.{ChargeEntry}
use Rattle.audit_core.specs.Agreeing.{lent}
use Rattle.audit_core.specs.Charges.{OpenMissing}
use Rattle.audit_core.proofs.ItemBreaks.{opens_too_many}
use Rattle.audit_core.proofs.WhyFound.{none_when, some_found}
use Rattle.audit_core.proofs.charges.open_broken.Goals as goal

pub returns-in-Some-clause-some : goal.returns-in-Some-clause-some
returns-in-Some-clause-some c =
    inl (some_found (OpenMissing (lent c.args.told.now) c.args.due.now) c.in_ok-found.field-0 c.in-Some.found
    c.in_ok-found.ensures.some c.in-Some.is)

pub returns-then-told-due-clause-none : goal.returns-then-told-due-clause-none
returns-then-told-due-clause-none c = record {
  each = none_when c.in_ok-found.field-0 c.in_ok-found.ensures.none c.in_default.not-Some;
  as_many = omega (arith, length-map c.args.told.now (λ (b : Bor ChargeEntry). b.now));
}

pub returns-clause-some : goal.returns-clause-some
returns-clause-some c =
    opens_too_many (lent c.args.told.now) c.args.due.now c.in_ok-at.at c.in_ok-surplus.surplus
    c.in_ok-tells.field-0
    (none_when c.in_ok-found.field-0 c.in_ok-found.ensures.none c.in_default.not-Some)
    (λ same. omega (arith, same, length-map c.args.told.now (λ (b : Bor ChargeEntry). b.now)))
    c.in_ok-at.ensures c.in_ok-surplus.ensures c.in_ok-tells.ensures
