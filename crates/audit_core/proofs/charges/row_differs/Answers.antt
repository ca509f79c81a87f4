use Rattle.std.proofs.Common.{◌∙◌, arith}
use Rattle.std.specs.Borrow.{Bor}
use Rattle.std.proofs.lemmas.List.{length-map}
use Rattle.report_lines.specs.declared.entry.Entry.TheVariants.{Charge}
use Rattle.report_lines.specs.declared.entry.ChargeEntry.{ChargeEntry}
use Rattle.audit_core.specs.Agreeing.{lent}
use Rattle.audit_core.specs.Telling.{tells_said}
use Rattle.audit_core.proofs.ItemLemmas.{item_differs}
use Rattle.audit_core.proofs.charges.row_differs.Goals as goal

pub returns-clause-some : goal.returns-clause-some
returns-clause-some c =
    item_differs Charge (lent c.args.told.now) c.args.due.now c.same_charges-at.result c.in_ok-tells.field-0 c.same_charges-at.ensures
    (λ past. omega (arith, past, length-map c.args.told.now (λ (b : Bor ChargeEntry). b.now)))
    (c.in_ok-tells.ensures ∙ (λ i. tells_said (c.in_ok-stands.ensures i) (c.in_ok-asked.ensures i)))
