use Rattle.std.proofs.Common.{ap, ◌∙◌, sym, subst}
use Rattle.packet_steps.specs.Standing as counters
use Rattle.gate_model.specs.SlotPast.{past_of}
use Rattle.subscriber.specs.Standing.{SubscriberState}
use Rattle.subscriber.proofs.subscriber.Subscriber.take_closed.Goals as goal

pub returns-clause-last : goal.returns-clause-last
returns-clause-last c = λ slot events taken stands.
    let before = subst (λ (s : counters.CountersState). counters.StandsFor s (past_of slot events).packets taken)
    (sym (ap (λ (s : SubscriberState). s.counters) c.self.view_is)) stands.counters in
    (c.take_closed.ensures.stands (past_of slot events).packets taken before).last ∙ sym stands.counters.last
