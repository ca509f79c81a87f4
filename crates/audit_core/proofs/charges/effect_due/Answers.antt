use Rattle.std.proofs.Common.{arith}
use Rattle.std.proofs.lemmas.List.{length-map}
use Rattle.report_lines.specs.declared.entry.Entry.TheVariants.{Effect}
use Rattle.audit_core.specs.Dues.{effected, effects_lent}
use Rattle.audit_core.proofs.RestLemmas.{drop_mapped}
use Rattle.audit_core.proofs.ItemLemmas.{said_past, said_there}
use Rattle.audit_core.proofs.charges.effect_due.Goals as goal

pub returns-then-at-due : goal.returns-then-at-due
returns-then-at-due c = said_past Effect (effects_lent c.args.due.now) c.args.at (omega (arith, length-map c.args.due.now effected))

pub returns : goal.returns
returns c =
    said_there Effect (effects_lent c.args.due.now) c.args.at (effected c.index-due-at.result) c.in_ok-effect_due_said.field-0
    (drop_mapped effected c.args.due.now c.args.at c.index-due-at.result (omega arith) c.index-due-at.is)
    c.in_ok-effect_due_said.ensures
