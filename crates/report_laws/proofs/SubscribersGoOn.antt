-- Whatever event comes, a subscriber that represents the events of its slot goes on by it, by what it holds alone, to
-- one that represents them with it.
use Rattle.std.proofs.Common.{◌≡◌, ℕ, ◌+◌, ◌≤◌, List, [], ◌∷◌, ◌++◌, length, IfSome, refl, sym, ap, ◌∙◌, subst, arith}
use Rattle.std.proofs.lemmas.List.{drop_all}
use Rattle.pc_base.specs.declared.packet.Packet.{Packet}
use Rattle.charging_book.specs.Happenings.{rows_of}
use Rattle.bearer_state.specs.Session.{SessionState}
use Rattle.bearer_state.specs.Version.{IsVersion, VersionState, version_of}
use Rattle.bearer_state.proofs.VersionLemmas.{version_fits}
use Rattle.control_steps.specs.Table.{controlled}
use Rattle.control_steps.specs.declared.command.CommandKind.{CommandKind}
use Rattle.packet_steps.specs.Change.{learnt}
use Rattle.packet_steps.specs.Plans.{verdict_by}
use Rattle.packet_steps.specs.Running.{Advances, GoesOn, brought, planned}
use Rattle.packet_steps.specs.Standing as counters
use Rattle.packet_steps.specs.Standing.{Follows}
use Rattle.packet_steps.specs.Verdicts.{judged}
use Rattle.packet_steps.proofs.StandingLemmas.{late_by}
use Rattle.gate_model.specs.Events.{FewEvents}
use Rattle.gate_model.specs.SlotPast.{effects_after, next_version, past_of, records_after, records_made, reply_after, verdict_after}
use Rattle.gate_model.specs.declared.event.Event.{Event}
use Rattle.gate_model.specs.declared.event.Event.TheVariants as event
use Rattle.gate_model.proofs.FewCharges.{commands_follow}
use Rattle.gate_model.proofs.Following.{commands_learnt, packets_judged, sessions_are, versions_are}
use Rattle.gate_model.proofs.RoomLemmas.{counts_within}
use Rattle.subscriber.specs.Subscribers.{IsCommanded, IsMet}
use Rattle.subscriber.specs.Standing.{HasRoom, Represents, StandsFor, SubscriberState, commands_met, last_of}
use Rattle.subscriber.proofs.CountLemmas.{room_behind}
use Rattle.subscriber.proofs.StandingLemmas.{command_stands, packet_stands, version_is}
use Rattle.report_laws.proofs.KeptRanges.{CommandKept}
use Rattle.report_laws.proofs.SessionsKept.{SessionKept, controlled_kept}
use Rattle.report_laws.proofs.PacketsPlanned.{Steps, packet_steps}
use Rattle.report_laws.proofs.VersionsBrought.{AdvancesTo, version_advances}

-- its charging records are taken out
abbrev pub emptied : SubscriberState → SubscriberState
emptied one = record one { counters = record one.counters { book = record one.counters.book { rows = [] } } }

emptied_stands : (one : SubscriberState) (slot : ℕ) (events : List Event) (taken : ℕ)
    → StandsFor one slot events taken → Represents (emptied one) slot events
emptied_stands one slot events taken stands =
    let rows = rows_of (past_of slot events).packets.charged in
    record {
      session = stands.session;
      version = stands.version;
      counters = record {
        meters = stands.counters.meters;
        charges = record {
          lawful = stands.counters.charges.lawful;
          opens = stands.counters.charges.opens;
          moments = stands.counters.charges.moments;
          rows = sym (drop_all (length rows) rows (omega arith));
          within = omega arith;
        };
        held = stands.counters.held;
        last = stands.counters.last;
        open_lives = stands.counters.open_lives;
        rates = stands.counters.rates;
        ranges = stands.counters.ranges;
      };
      commands = stands.commands;
      packets = stands.packets;
    }

-- what a packet leaves, and what is told of it
pub record PacketGoes (one : SubscriberState) (slot : ℕ) (events : List Event) (packet : Packet) : Type 0 where
  pub left : SubscriberState
  pub met : IsMet one left packet
  pub verdict_is : verdict_by (planned one.version one.counters packet) packet.octets ≡ verdict_after slot events packet
  pub rows_are : left.counters.book.rows ≡ records_made slot events (event.Packet packet ∷ [])
  pub stands : Represents (emptied left) slot (events ++ event.Packet packet ∷ [])

pub packet_goes : (one : SubscriberState) (slot : ℕ) (events : List Event) (packet : Packet)
    → Represents one slot events → IfSome (last_of one) (λ last. last ≤ packet.moment)
    → PacketGoes one slot events packet
packet_goes one slot events packet stands late =
    let past = (past_of slot events).packets in
    let taken = length (records_after slot events) in
    let steps : Steps (planned past.version one.counters packet)
    (judged past packet) packet one.counters taken =
    packet_steps one.counters past taken packet stands.counters
    (late_by one.counters past taken packet.moment stands.counters late) in
    let left : SubscriberState = record one { counters = steps.new; packets = one.packets + 1 } in
    let behind : StandsFor left slot (events ++ event.Packet packet ∷ []) taken =
    packet_stands versions_are packets_judged one left slot events taken packet stands refl refl refl steps.stands in
    record {
      left = left;
      met = record {
        counters = subst (λ (v : VersionState). GoesOn (planned v one.counters packet) packet one.counters steps.new)
            (sym stands.version) steps.goes;
        others = refl;
      };
      verdict_is = ap (λ (v : VersionState). verdict_by (planned v one.counters packet) packet.octets) stands.version
          ∙ steps.verdict_is;
      rows_are = behind.counters.charges.rows;
      stands = emptied_stands left slot (events ++ event.Packet packet ∷ []) taken behind;
    }

-- what a command leaves, and what is told of it
pub record CommandGoes (one : SubscriberState) (slot : ℕ) (events : List Event) (command : CommandKind) :
    Type 0 where
  pub left : SubscriberState
  pub commanded : IsCommanded one left command
  pub kept : SessionKept left.session
  pub version : IsVersion left.version
  pub reply_is : (controlled one.session command).1 ≡ reply_after slot events command
  pub effects_are : (brought one.version left.version one.counters).effects ≡ effects_after slot events command
  pub rows_are : left.counters.book.rows ≡ records_made slot events (event.Command command ∷ [])
  pub last : last_of left ≡ last_of one
  pub stands : Represents (emptied left) slot (events ++ event.Command command ∷ [])

pub command_goes : (one : SubscriberState) (slot : ℕ) (events : List Event) (command : CommandKind)
    → Represents one slot events → FewEvents (length events) → SessionKept one.session → CommandKept command
    → CommandGoes one slot events command
command_goes one slot events command stands few kept own =
    let past = past_of slot events in
    let taken = length (records_after slot events) in
    let room : HasRoom one = room_behind counts_within one slot events taken stands few in
    let session : SessionState = (controlled one.session command).0 in
    let after : VersionState = version_of session (commands_met one + 1) in
    let next : after ≡ next_version past command =
    version_is one slot events taken command session after (commands_met one + 1) stands refl refl refl in
    let kept_now : SessionKept session =
    controlled_kept one.session kept (omega (arith, room.rates)) (omega (arith, room.lives)) command own in
    let ranges : IsVersion after =
    version_fits session (commands_met one + 1) kept_now.fits kept_now.bearers (omega (arith, room.few)) in
    let follows : Follows past.packets after =
    subst (λ (v : VersionState). Follows past.packets v) (sym next)
    (commands_follow slot events command (omega (arith, few))) in
    let advances : AdvancesTo one.counters past.packets taken after =
    version_advances one.counters past.packets taken after stands.counters follows ranges in
    let left : SubscriberState = record one { session = session; version = after; counters = advances.new } in
    let behind : StandsFor left slot (events ++ event.Command command ∷ []) taken =
    command_stands sessions_are versions_are commands_learnt one left slot events taken command stands refl refl refl
    advances.stands in
    record {
      left = left;
      commanded = record {
        session = refl;
        version = refl;
        counters = subst (λ (v : VersionState). Advances v after one.counters advances.new) (sym stands.version)
            advances.advances;
        packets = refl;
        destination = refl;
      };
      kept = kept_now;
      version = ranges;
      reply_is = ap (λ (s : SessionState). (controlled s command).1) stands.session;
      effects_are = ap (λ (v : VersionState). (brought v after one.counters).effects) stands.version
          ∙ advances.effects
          ∙ ap (λ (v : VersionState). (learnt past.packets v).1) next;
      rows_are = behind.counters.charges.rows;
      last = advances.advances.last;
      stands = emptied_stands left slot (events ++ event.Command command ∷ []) taken behind;
    }
