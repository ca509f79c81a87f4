use Rattle.std.proofs.Common.{arith}
use Rattle.std.specs.Borrow.{Bor}
use Rattle.std.proofs.lemmas.List.{length-map}
use Rattle.report_lines.specs.declared.entry.Entry.TheVariants.{Charge}
use Rattle.report_lines.specs.declared.entry.ChargeEntry.{ChargeEntry}
use Rattle.audit_core.specs.Agreeing.{lent}
use Rattle.audit_core.proofs.RestLemmas.{drop_mapped}
use Rattle.audit_core.proofs.ItemLemmas.{said_past, said_there}
use Rattle.audit_core.proofs.charges.charge_at.Goals as goal

pub returns-then-at-told : goal.returns-then-at-told
returns-then-at-told c = said_past Charge (lent c.args.told.now) c.args.at (omega (arith, length-map c.args.told.now (λ (b : Bor ChargeEntry). b.now)))

pub returns : goal.returns
returns c =
    said_there Charge (lent c.args.told.now) c.args.at c.index-told-at.result.now c.in_ok-charge_said.field-0
    (drop_mapped (λ (b : Bor ChargeEntry). b.now) c.args.told.now c.args.at c.index-told-at.result (omega arith)
    c.index-told-at.is)
    c.in_ok-charge_said.ensures
