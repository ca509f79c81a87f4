-- A subscriber at rest as contracts see it, and the events that it represents.
use Rattle.std.specs.Prelude.{◌≡◌, ℕ, ◌+◌, List, length, Option}
use Rattle.pc_base.specs.declared.packet.Packet.{Packet}
use Rattle.pc_base.specs.declared.packet.Way.{Way}
use Rattle.bearer_state.specs.Session.{SessionState, new_session}
use Rattle.bearer_state.specs.Version.{VersionState, version_of}
use Rattle.packet_steps.specs.Parts.{new_counters}
use Rattle.packet_steps.specs.Standing as counters
use Rattle.gate_model.specs.declared.event.Event.{Event}
use Rattle.gate_model.specs.Events.{FewEvents, MayRise, commands_of, packets_of}
use Rattle.gate_model.specs.SlotPast.{past_of, records_after, session_after, version_after}

-- the session, the version that packets go by, the running counters, how many packets came, and the slice that the
-- subscriber is bound for
pub record SubscriberState : Type 0 where
  pub session : SessionState
  pub version : VersionState
  pub counters : counters.CountersState
  pub packets : ℕ
  pub destination : ℕ

-- the subscriber of these
abbrev pub subscriber_of : SessionState → VersionState → counters.CountersState → (packets destination : ℕ)
    → SubscriberState
subscriber_of session version running packets destination = record {
  session = session;
  version = version;
  counters = running;
  packets = packets;
  destination = destination;
}

-- a subscriber before its first event, bound for a slice
abbrev pub new_subscriber : (slot destination : ℕ) → SubscriberState
new_subscriber slot destination = record {
  session = new_session slot;
  version = version_of (new_session slot) 0;
  counters = new_counters;
  packets = 0;
  destination = destination;
}

-- how many commands its packets go by, and the moment of its last packet
abbrev pub commands_met : SubscriberState → ℕ
commands_met subscriber = subscriber.version.number

abbrev pub last_of : SubscriberState → Option ℕ
last_of subscriber = counters.last_of subscriber.counters

-- A subscriber represents the events of a slot, with so many of their charging records taken out: it has their session,
-- its version, their packets' counters, and their counts.
pub record StandsFor (subscriber : SubscriberState) (slot : ℕ) (events : List Event) (taken : ℕ) : Type 0 where
  pub session : subscriber.session ≡ session_after slot events
  pub version : subscriber.version ≡ version_after slot events
  pub counters : counters.StandsFor subscriber.counters (past_of slot events).packets taken
  pub commands : commands_met subscriber ≡ length (commands_of events)
  pub packets : subscriber.packets ≡ length (packets_of events)

-- It represents events of its slot, of which all charging records were taken out.
abbrev pub Represents : SubscriberState → ℕ → List Event → Type 0
Represents subscriber slot events = StandsFor subscriber slot events (length (records_after slot events))

-- Where memory ran out at a command, the session may have done it, or not: for packets, records and counters the
-- subscriber represents the events before all the same.
abbrev pub StandsForPackets : SubscriberState → ℕ → List Event → ℕ → Type 0
StandsForPackets subscriber slot events taken =
    StandsFor (record subscriber { session = session_after slot events }) slot events taken

-- its counts may rise: how often its session's rates were set, its lives, and its commands and packets
pub record HasRoom (subscriber : SubscriberState) : Type 0 where
  pub rates : MayRise subscriber.session.rates
  pub lives : MayRise subscriber.session.lives
  pub few : MayRise (commands_met subscriber + subscriber.packets)

-- where it represents few events, they may
abbrev pub FewEventsLeaveRoom : Type 0
FewEventsLeaveRoom = (subscriber : SubscriberState) (slot : ℕ) (events : List Event) (taken : ℕ)
    → StandsFor subscriber slot events taken → FewEvents (length events) → HasRoom subscriber

-- a packet of these fields
abbrev pub packet_of : ℕ → ℕ → Way → List ℕ → Packet
packet_of number moment way octets = record { number = number; moment = moment; way = way; octets = octets }
