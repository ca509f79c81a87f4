use Rattle.std.proofs.Common.{◌++◌, map, take, ap, subst, arith}
use Rattle.std.proofs.lemmas.List.{take_all}
use Rattle.report_lines.specs.declared.entry.Entry.TheVariants as entry
use Rattle.lawful_run.specs.LinesTold.{LineTold}
use Rattle.audit_core.specs.Dues.{Asks}
use Rattle.audit_core.specs.Meant.{lines_of}
use Rattle.audit_core.proofs.OrderSteps.{line_more}
use Rattle.audit_core.proofs.order.EntryOrder.ask_lines.Goals as goal

pub loop-told-preserved : goal.loop-told-preserved
loop-told-preserved c = λ made entries asked asks.
    let prefix = asked ++ map entry.Line
    (map (λ (told : LineTold). told.entry) (lines_of (take c.loop-told.told-index c.args.lines.now))) in
    subst (λ a. Asks made entries a c.ask.new.self)
    (line_more asked c.args.lines.now c.loop-told.told-index c.told-item.result
    c.loop-told-test.true c.told-item.is)
    (c.in_ok-ask.ensures made entries prefix (c.loop-told.invariant made entries asked asks))

pub returns : goal.returns
returns c = λ made entries asked asks.
    subst (λ a. Asks made entries a c.loop-told.self)
    (ap (λ l. asked ++ map entry.Line (map (λ (told : LineTold). told.entry) (lines_of l)))
    (take_all c.loop-told.told-index c.args.lines.now (omega arith)))
    (c.loop-told.invariant made entries asked asks)

pub ask-requires : goal.ask-requires
ask-requires c =
    let q = c.requires in
    (q.0, q.1, q.2 ++ map entry.Line (map (λ (told : LineTold). told.entry) (lines_of (take c.loop-told.told-index c.args.lines.now))), c.loop-told.invariant q.0 q.1 q.2 q.3)
