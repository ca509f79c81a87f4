use Rattle.std.proofs.Common.{sym, subst, ◌∙◌}
use Rattle.subscriber.specs.Standing.{Represents}
use Rattle.lawful_run.specs.Outcomes.{opens}
use Rattle.audit_core.proofs.OpenLemmas.{opens_more}
use Rattle.audit_core.proofs.opens.opens_due.Goals as goal

pub loop-subscriber-preserved : goal.loop-subscriber-preserved
loop-subscriber-preserved c = λ histories standing.
    let index = c.loop-subscriber.subscriber-index in
    let held = c.subscriber-item.result in
    let stands : Represents held index (histories index) =
    subst (λ s. Represents s index (histories index)) (sym c.subscriber-item.is)
    (standing.each index held c.loop-subscriber-test.true) in
    c.in_ok-push_opens.ensures index (histories index) stands
    ∙ opens_more index (λ slot. opens slot (histories slot)) c.loop-subscriber.all.items
    (c.loop-subscriber.invariant histories standing)
