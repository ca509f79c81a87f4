use Rattle.std.proofs.Common.{arith}
use Rattle.report_lines.specs.declared.entry.Entry.TheVariants.{Charge}
use Rattle.audit_core.proofs.RestLemmas.{drop_next}
use Rattle.audit_core.proofs.ItemLemmas.{said_past, said_there}
use Rattle.audit_core.proofs.charges.charge_due.Goals as goal

pub returns-then-at-due : goal.returns-then-at-due
returns-then-at-due c = said_past Charge (c.args.due.now) c.args.at (omega arith)

pub returns : goal.returns
returns c =
    said_there Charge (c.args.due.now) c.args.at c.index-due-at.result c.in_ok-charge_said.field-0
    (drop_next c.args.due.now c.args.at c.index-due-at.result (omega arith) c.index-due-at.is)
    c.in_ok-charge_said.ensures
