use Rattle.std.proofs.Common.{sym, subst, ◌∙◌}
use Rattle.subscriber.specs.Standing.{Represents}
use Rattle.lawful_run.specs.Outcomes.{opens}
use Rattle.trace_run.specs.Entries.{opens_held}
use Rattle.trace_run.proofs.EntryLemmas.{charges_more}
use Rattle.trace_run.proofs.OpenLemmas.{opens_more}
use Rattle.trace_run.proofs.opens.push_opens.Goals as goal

pub loop-subscriber-preserved : goal.loop-subscriber-preserved
loop-subscriber-preserved c = (
  λ places events each.
      let index = c.loop-subscriber.subscriber-index in
      let held = c.subscriber-item.result in
      let stands : Represents held index (events index) =
      subst (λ s. Represents s index (events index)) (sym c.subscriber-item.is)
      (each index held c.loop-subscriber-test.true) in
      c.in_ok-push_subscriber.ensures.after places index (events index) _ stands
      ∙ opens_more places index (λ slot. opens slot (events slot)) c.args.report.now c.loop-subscriber.report
      (c.loop-subscriber.invariant.0 places events each),
  λ places.
      charges_more places opens_held c.args.report.now c.loop-subscriber.report c.push_subscriber.new.report
      c.args.subscribers.now c.loop-subscriber.subscriber-index c.subscriber-item.result c.loop-subscriber-test.true
      c.subscriber-item.is (c.loop-subscriber.invariant.1 places) (c.in_ok-push_subscriber.ensures.own places),
)
