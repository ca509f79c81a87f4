use Rattle.std.proofs.Common.{◌++◌, ◌∙◌, ap}
use Rattle.slot_execution.specs.Replaying.{rows_closed}
use Rattle.audit_core.proofs.RestLemmas.{flat_more}
use Rattle.audit_core.proofs.due_entries.rows_due.Goals as goal

pub loop-own-preserved : goal.loop-own-preserved
loop-own-preserved c =
    c.in_ok-push_closed.ensures
    ∙ ap (λ prefix. prefix ++ rows_closed c.own-item.result) c.loop-own.invariant
    ∙ flat_more rows_closed c.args.closed.now c.loop-own.own-index c.own-item.result c.loop-own-test.true
    c.own-item.is
