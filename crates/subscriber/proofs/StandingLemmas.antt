-- A subscriber represents one event more.
use Rattle.std.proofs.Common.{◌≡◌, ℕ, ◌+◌, List, [], ◌∷◌, ◌++◌, length, refl, sym, ap, ◌∙◌, subst, arith}
use Rattle.pc_base.specs.declared.packet.Packet.{Packet}
use Rattle.bearer_state.specs.Session.{SessionState, new_session}
use Rattle.bearer_state.specs.Version.{VersionState, version_of}
use Rattle.control_steps.specs.declared.command.CommandKind.{CommandKind}
use Rattle.control_steps.specs.Table.{controlled}
use Rattle.packet_steps.specs.Past.{Past}
use Rattle.packet_steps.specs.Change.{learnt}
use Rattle.packet_steps.specs.Verdicts.{judged}
use Rattle.packet_steps.specs.Standing as counters
use Rattle.gate_model.specs.declared.event.Event.{Event}
use Rattle.gate_model.specs.declared.event.Event.TheVariants as event
use Rattle.gate_model.specs.Events.{commands_of}
use Rattle.gate_model.specs.SlotPast.{SlotPast, past_of, session_after, version_after, next_session, next_version}
use Rattle.gate_model.specs.Versions.{controlled_by, SessionsAreOfCommands, VersionsAreOfCommands, CommandsAreLearnt, PacketsAreJudged}
use Rattle.gate_model.specs.Few.{FewCommandsFollow}
use Rattle.subscriber.specs.Standing.{SubscriberState, StandsFor, HasRoom}
use Rattle.subscriber.proofs.CountLemmas.{events_are_few, past_counts, commands_more, packets_stay, packets_more, commands_same}

-- the version that a command leaves
pub version_is : (old : SubscriberState) (slot : ℕ) (events : List Event) (taken : ℕ) (command : CommandKind)
    (session : SessionState) (after : VersionState) (number : ℕ)
    → StandsFor old slot events taken → session ≡ (controlled old.session command).0
    → number ≡ old.version.number + 1 → after ≡ version_of session number
    → after ≡ next_version (past_of slot events) command
version_is old slot events taken command session after number stands stepped counted is =
    let past = past_of slot events in
    let count : number ≡ past.commands + 1 = omega (arith, counted, stands.commands, past_counts slot events) in
    let next : session ≡ next_session past command = stepped
    ∙ ap (λ (s : SessionState). (controlled s command).0) stands.session in
    is ∙ ap (λ (s : SessionState). version_of s number) next ∙ ap (version_of (next_session past command)) count

-- a version is that of the session under the count of commands
version_of_session : SessionsAreOfCommands → VersionsAreOfCommands → (slot : ℕ) (events : List Event)
    → version_after slot events ≡ version_of (session_after slot events) (length (commands_of events))
version_of_session sessions versions slot events =
    versions slot events ∙ ap (λ (s : SessionState). version_of s (length (commands_of events)))
    (sym (sessions slot events))

pub command_stands : SessionsAreOfCommands → VersionsAreOfCommands → CommandsAreLearnt
    → (old new : SubscriberState) (slot : ℕ) (events : List Event) (taken : ℕ) (command : CommandKind)
    → StandsFor old slot events taken → new.session ≡ (controlled old.session command).0
    → new.version ≡ version_of new.session (old.version.number + 1)
    → new.packets ≡ old.packets → counters.StandsFor new.counters
    (learnt (past_of slot events).packets new.version).0 taken
    → StandsFor new slot (events ++ event.Command command ∷ []) taken
command_stands sessions versions learns old new slot events taken command stands stepped versioned packets counts =
    let past = past_of slot events in
    let more = events ++ event.Command command ∷ [] in
    let behind = learns slot events command in
    let session : new.session ≡ session_after slot more =
    stepped ∙ ap (λ (s : SessionState). (controlled s command).0) stands.session
    ∙ sym (ap (λ (p : SlotPast). p.session) behind) in
    let count : old.version.number + 1 ≡ length (commands_of more) =
    omega (arith, stands.commands, commands_more events command) in
    let next = version_is old slot events taken command new.session new.version (old.version.number
    + 1) stands stepped refl versioned in
    record {
      session = session;
      version = versioned ∙ ap (version_of new.session) count
          ∙ ap (λ (s : SessionState). version_of s (length (commands_of more))) session
          ∙ sym (version_of_session sessions versions slot more);
      counters = subst (λ (p : Past). counters.StandsFor new.counters p taken)
          (ap (λ (v : VersionState). (learnt past.packets v).0) next
          ∙ sym (ap (λ (p : SlotPast). p.packets) behind)) counts;
      commands = ap (λ (v : VersionState). v.number) versioned ∙ count;
      packets = packets ∙ stands.packets ∙ sym (packets_stay events command);
    }

pub packet_stands : VersionsAreOfCommands → PacketsAreJudged
    → (old new : SubscriberState) (slot : ℕ) (events : List Event) (taken : ℕ) (packet : Packet)
    → StandsFor old slot events taken → new.session ≡ old.session → new.version ≡ old.version
    → new.packets ≡ old.packets + 1
    → counters.StandsFor new.counters (judged (past_of slot events).packets packet).0 taken
    → StandsFor new slot (events ++ event.Packet packet ∷ []) taken
packet_stands versions judges old new slot events taken packet stands session version packets counts =
    let more = events ++ event.Packet packet ∷ [] in
    let behind = judges slot events packet in
    let same = commands_same events packet in
    record {
      session = session ∙ stands.session ∙ sym (ap (λ (p : SlotPast). p.session) behind);
      version = version ∙ stands.version ∙ versions slot events
          ∙ sym (ap (λ commands. version_of (controlled_by (new_session slot) commands) (length commands)) same)
          ∙ sym (versions slot more);
      counters = subst (λ (p : Past). counters.StandsFor new.counters p taken)
          (sym (ap (λ (p : SlotPast). p.packets) behind)) counts;
      commands = ap (λ (v : VersionState). v.number) version ∙ stands.commands
          ∙ sym (ap (λ (commands : List CommandKind). length commands) same);
      packets = omega (arith, packets, stands.packets, packets_more events packet);
    }

-- what counters learn of a command, behind the events that they represented
pub record Learns (stood : counters.CountersState) (before after : VersionState) (slot : ℕ) (events : List Event)
    (taken : ℕ) (command : CommandKind) : Type 0 where
  pub stands : counters.StandsFor stood (past_of slot events).packets taken
  pub same : (past_of slot events).packets.version ≡ before
  pub next : after ≡ next_version (past_of slot events) command
  pub follows : counters.Follows (past_of slot events).packets after

pub learns : FewCommandsFollow → (old : SubscriberState) (slot : ℕ) (events : List Event) (taken : ℕ)
    (command : CommandKind) (stood : counters.CountersState)
    (before after : VersionState) (session : SessionState) → HasRoom old → StandsFor old slot events taken
    → stood ≡ old.counters → before ≡ old.version
    → session ≡ (controlled old.session command).0 → after ≡ version_of session (old.version.number + 1)
    → Learns stood before after slot events taken command
learns follow old slot events taken command stood before after session room stands counted versioned stepped made =
    let packets = (past_of slot events).packets in
    let few = events_are_few old slot events taken room stands in
    let next = version_is old slot events taken command session after (old.version.number
    + 1) stands stepped refl made in
    record {
      stands = subst (λ (s : counters.CountersState). counters.StandsFor s packets taken) (sym counted) stands.counters;
      same = sym stands.version ∙ sym versioned;
      next = next;
      follows = subst (λ (v : VersionState). counters.Follows packets v) (sym next) (follow slot events command few);
    }
