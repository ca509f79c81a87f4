use Rattle.std.proofs.Common.{◌++◌, map, ap, ◌∙◌, arith}
use Rattle.report_lines.specs.declared.entry.Entry.TheVariants as entry
use Rattle.audit_core.specs.Dues.{entry_due}
use Rattle.audit_core.proofs.OrderLemmas.{all_asked, more_asked}
use Rattle.audit_core.proofs.PieceOrder.{pushed_due}
use Rattle.audit_core.proofs.piece_order.push_charges.Goals as goal

pub loop-charge-preserved : goal.loop-charge-preserved
loop-charge-preserved c =
    ap (map entry_due) c.in_ok-push.ensures.items
    ∙ pushed_due c.loop-charge.all.items _ c.loop-charge.invariant
    ∙ more_asked entry.Charge (map entry_due c.args.all.now.items) c.args.charges.now c.loop-charge.charge-index
    c.charge-item.result c.loop-charge-test.true c.charge-item.is

pub returns : goal.returns
returns c =
    c.loop-charge.invariant
    ∙ all_asked entry.Charge (map entry_due c.args.all.now.items) c.args.charges.now c.loop-charge.charge-index
    (omega arith)
