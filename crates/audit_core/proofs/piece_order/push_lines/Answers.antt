use Rattle.std.proofs.Common.{◌++◌, map, ap, ◌∙◌, arith}
use Rattle.std.proofs.lemmas.List.{take_all}
use Rattle.report_lines.specs.declared.entry.Entry.TheVariants as entry
use Rattle.lawful_run.specs.LinesTold.{LineTold}
use Rattle.audit_core.specs.Dues.{entry_due}
use Rattle.audit_core.specs.Meant.{lines_of}
use Rattle.audit_core.proofs.OrderSteps.{line_more}
use Rattle.audit_core.proofs.PieceOrder.{pushed_due}
use Rattle.audit_core.proofs.piece_order.push_lines.Goals as goal

pub loop-told-preserved : goal.loop-told-preserved
loop-told-preserved c =
    ap (map entry_due) c.in_ok-push.ensures.items
    ∙ pushed_due c.loop-told.all.items _ c.loop-told.invariant
    ∙ line_more (map entry_due c.args.all.now.items) c.args.lines.now c.loop-told.told-index c.told-item.result
    c.loop-told-test.true c.told-item.is

pub returns : goal.returns
returns c =
    c.loop-told.invariant
    ∙ ap (λ l. map entry_due c.args.all.now.items
    ++ map entry.Line (map (λ (told : LineTold). told.entry) (lines_of l)))
    (take_all c.loop-told.told-index c.args.lines.now (omega arith))
