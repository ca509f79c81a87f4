use Rattle.std.proofs.Common.{◌≡◌, ℕ, ◌+◌, ◌<◌, ◌^◌, List, ap, ◌∙◌, sym, subst, arith}
use Rattle.packet_steps.specs.Standing as counters
use Rattle.gate_model.specs.declared.event.Event.{Event}
use Rattle.gate_model.specs.SlotPast.{past_of}
use Rattle.subscriber.specs.Standing.{SubscriberState, StandsFor}
use Rattle.packet_steps.specs.Plans.{verdict_by}
use Rattle.packet_steps.specs.Running.{planned, GoesOn}
use Rattle.subscriber.proofs.CountLemmas.{events_are_few}
use Rattle.subscriber.proofs.StandingLemmas.{packet_stands}
use Rattle.subscriber.proofs.subscriber.Subscriber.packet.Goals as goal

pub overflow_add-self : goal.overflow_add-self
overflow_add-self c =
    let is = ap (λ (s : SubscriberState). s.packets) c.self.view_is in
    let sum : c.self.inside.packets + 1 < 2 ^ 64 = omega (arith, c.requires.room.few, is) in
    omega (arith, sum)

-- what the counters represented, of a list of events
record Judges (c : goal.After-self-1) (slot : ℕ) (events : List Event) (taken : ℕ) : Type 0 where
  stood : counters.StandsFor c.self.inside.counters (past_of slot events).packets taken
  before : (past_of slot events).packets.version ≡ c.self.inside.version
  few : counters.AreFew (past_of slot events).packets.charged

judges : (c : goal.After-self-1) (slot : ℕ) (events : List Event) (taken : ℕ)
    → StandsFor c.args.self.now slot events taken → Judges c slot events taken
judges c slot events taken stands = record {
  stood = subst (λ (s : counters.CountersState). counters.StandsFor s (past_of slot events).packets taken)
      (sym (ap (λ (s : SubscriberState). s.counters) c.self.view_is)) stands.counters;
  before = sym stands.version ∙ sym (ap (λ (s : SubscriberState). s.version) c.self.view_is);
  few = c.known_pasts.ensures.charged slot events (events_are_few c.args.self.now slot events taken c.requires.room
      stands);
}

pub returns-clause-verdict : goal.returns-clause-verdict
returns-clause-verdict c = λ slot events taken stands.
    let is = judges c slot events taken stands in
    c.in_ok-verdict.ensures.verdict (past_of slot events).packets taken is.stood is.before is.few

pub returns-clause-stands : goal.returns-clause-stands
returns-clause-stands c = λ slot events taken stands.
    let is = judges c slot events taken stands in
    packet_stands c.known_pasts.ensures.versions c.known_pasts.ensures.judged c.args.self.now _ slot events taken
    c.args.packet.now stands
    (ap (λ (s : SubscriberState). s.session) c.self.view_is) (ap (λ (s : SubscriberState). s.version) c.self.view_is)
    (ap (λ (s : SubscriberState). s.packets + 1) c.self.view_is)
    (c.in_ok-verdict.ensures.stands (past_of slot events).packets taken is.stood is.before is.few)

pub returns-clause-planned : goal.returns-clause-planned
returns-clause-planned c = c.in_ok-verdict.ensures.planned
    ∙ ap (λ (s : SubscriberState). verdict_by (planned s.version s.counters c.args.packet.now) c.args.packet.now.octets)
    c.self.view_is

pub returns-clause-goes_on : goal.returns-clause-goes_on
returns-clause-goes_on c = subst (λ (s : SubscriberState).
    GoesOn (planned s.version s.counters c.args.packet.now) c.args.packet.now s.counters c.handle.new.counters)
    c.self.view_is c.in_ok-verdict.ensures.goes_on
