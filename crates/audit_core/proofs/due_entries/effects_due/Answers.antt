use Rattle.std.proofs.Common.{◌++◌, ◌∙◌, ap}
use Rattle.slot_execution.specs.Replaying.{effects_caused}
use Rattle.audit_core.proofs.RestLemmas.{flat_more}
use Rattle.audit_core.proofs.due_entries.effects_due.Goals as goal

pub loop-own-preserved : goal.loop-own-preserved
loop-own-preserved c =
    c.in_ok-push_caused.ensures
    ∙ ap (λ prefix. prefix ++ effects_caused c.own-item.result) c.loop-own.invariant
    ∙ flat_more effects_caused c.args.caused.now c.loop-own.own-index c.own-item.result c.loop-own-test.true
    c.own-item.is
