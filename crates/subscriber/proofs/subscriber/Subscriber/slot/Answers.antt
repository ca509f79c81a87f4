use Rattle.std.proofs.Common.{ap, ◌∙◌}
use Rattle.bearer_state.specs.Session.{SessionState}
use Rattle.subscriber.specs.declared.subscriber.Subscriber.TheInside.{Inside}
use Rattle.subscriber.specs.Standing.{SubscriberState}
use Rattle.subscriber.proofs.subscriber.Subscriber.slot.Goals as goal

pub returns-clause-after : goal.returns-clause-after
returns-clause-after c = λ slot events taken stands.
    ap (λ (i : Inside). i.session.slot) c.self-inside.view_is
    ∙ ap (λ (s : SubscriberState). s.session.slot) c.self.view_is
    ∙ ap (λ (s : SessionState). s.slot) stands.session ∙ c.known_pasts.ensures.slot slot events

pub returns-clause-own : goal.returns-clause-own
returns-clause-own c = ap (λ (i : Inside). i.session.slot) c.self-inside.view_is
    ∙ ap (λ (s : SubscriberState). s.session.slot) c.self.view_is
