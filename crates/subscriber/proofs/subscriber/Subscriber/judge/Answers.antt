use Rattle.std.proofs.Common.{◌≡◌, ℕ, ◌+◌, ◌<◌, ◌^◌, List, ap, ◌∙◌, sym, subst, arith}
use Rattle.pc_base.specs.declared.packet.Packet.{Packet}
use Rattle.packet_steps.specs.Standing as counters
use Rattle.gate_model.specs.declared.event.Event.{Event}
use Rattle.gate_model.specs.SlotPast.{past_of}
use Rattle.subscriber.specs.Standing.{SubscriberState, StandsFor, packet_of}
use Rattle.packet_steps.specs.Plans.{verdict_by}
use Rattle.packet_steps.specs.Running.{planned, GoesOn}
use Rattle.subscriber.proofs.CountLemmas.{events_are_few}
use Rattle.subscriber.proofs.StandingLemmas.{packet_stands}
use Rattle.subscriber.proofs.subscriber.Subscriber.judge.Goals as goal

pub overflow_add-self : goal.overflow_add-self
overflow_add-self c =
    let is = ap (λ (s : SubscriberState). s.packets) c.self.view_is in
    let sum : c.self.inside.packets + 1 < 2 ^ 64 = omega (arith, c.requires.room.few, is) in
    omega (arith, sum)

-- what the counters represented, of a list of events
record Judges (c : goal.After-self-1) (slot : ℕ) (events : List Event) (taken : ℕ) : Type 0 where
  stood : counters.StandsFor c.self.inside.counters (past_of slot events).packets taken
  before : (past_of slot events).packets.version ≡ c.self.inside.version
  few : counters.AreFew (past_of slot events).packets.charged

judges : (c : goal.After-self-1) (slot : ℕ) (events : List Event) (taken : ℕ)
    → StandsFor c.args.self.now slot events taken → Judges c slot events taken
judges c slot events taken stands = record {
  stood = subst (λ (s : counters.CountersState). counters.StandsFor s (past_of slot events).packets taken)
      (sym (ap (λ (s : SubscriberState). s.counters) c.self.view_is)) stands.counters;
  before = sym stands.version ∙ sym (ap (λ (s : SubscriberState). s.version) c.self.view_is);
  few = c.known_pasts.ensures.charged slot events (events_are_few c.args.self.now slot events taken c.requires.room
      stands);
}

-- the packet, under its number
abbrev judged_packet : (c : goal.After-self-1) → Packet
judged_packet c = packet_of c.args.self.now.packets c.args.moment c.args.way c.args.ip.now

numbered : (c : goal.After-self-1) → judged_packet c
    ≡ packet_of c.self.inside.packets c.args.moment c.args.way c.args.ip.now
numbered c = ap (λ (s : SubscriberState). packet_of s.packets c.args.moment c.args.way c.args.ip.now)
    (sym c.self.view_is)

pub returns-in-Ok-clause-verdict : goal.returns-in-Ok-clause-verdict
returns-in-Ok-clause-verdict c = λ slot events taken stands.
    let is = judges c slot events taken stands in
    c.in-Ok.ensures.verdict (past_of slot events).packets taken (judged_packet c) is.stood is.before is.few (numbered c)

pub returns-in-Ok-clause-stands : goal.returns-in-Ok-clause-stands
returns-in-Ok-clause-stands c = λ slot events taken stands.
    let is = judges c slot events taken stands in
    packet_stands c.known_pasts.ensures.versions c.known_pasts.ensures.judged c.args.self.now _ slot events taken
    (judged_packet c) stands
    (ap (λ (s : SubscriberState). s.session) c.self.view_is) (ap (λ (s : SubscriberState). s.version) c.self.view_is)
    (ap (λ (s : SubscriberState). s.packets + 1) c.self.view_is)
    (c.in-Ok.ensures.stands (past_of slot events).packets taken (judged_packet c) is.stood is.before is.few
    (numbered c))

pub returns-in-Ok-clause-planned : goal.returns-in-Ok-clause-planned
returns-in-Ok-clause-planned c = c.in-Ok.ensures.planned (judged_packet c) (numbered c)
    ∙ ap (λ (s : SubscriberState). verdict_by (planned s.version s.counters (judged_packet c)) c.args.ip.now)
    c.self.view_is

pub returns-in-Ok-clause-goes_on : goal.returns-in-Ok-clause-goes_on
returns-in-Ok-clause-goes_on c = subst (λ (s : SubscriberState).
    GoesOn (planned s.version s.counters (judged_packet c)) (judged_packet c) s.counters c.judge.new.counters)
    c.self.view_is (c.in-Ok.ensures.goes_on (judged_packet c) (numbered c))
