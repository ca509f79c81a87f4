-- A slot's past is one fold over its events.
use Rattle.std.specs.Prelude.{ℕ, ◌+◌, List, ◌++◌, fold, drop, length}
use Rattle.pc_base.specs.declared.effect.Effect.{Effect}
use Rattle.pc_base.specs.declared.packet.Packet.{Packet}
use Rattle.pc_base.specs.declared.packet.Verdict.{Verdict}
use Rattle.pc_base.specs.declared.reply.Reply.{Reply}
use Rattle.bearer_state.specs.Session.{SessionState, new_session}
use Rattle.bearer_state.specs.Version.{VersionState, version_of}
use Rattle.charging_book.specs.Rows.{Counters, Charged}
use Rattle.charging_book.specs.Happenings.{rows_of, opens_of}
use Rattle.control_steps.specs.declared.command.CommandKind.{CommandKind}
use Rattle.control_steps.specs.Table.{controlled}
use Rattle.packet_steps.specs.Past.{Past, new_past}
use Rattle.packet_steps.specs.Verdicts.{judged}
use Rattle.packet_steps.specs.Change.{learnt}
use Rattle.gate_model.specs.declared.event.Event.{Event}
use Rattle.gate_model.specs.declared.event.Event.TheVariants as event
use Rattle.gate_model.specs.declared.event.Happened.{Happened}
use Rattle.gate_model.specs.declared.event.Happened.TheVariants.{Replied, Judged}

-- the session that the commands left, how many they were, and what is remembered of the packets
pub record SlotPast : Type 0 where
  pub session : SessionState
  pub commands : ℕ
  pub packets : Past

-- before the first event
abbrev pub new_slot : ℕ → SlotPast
new_slot slot = record { session = new_session slot; commands = 0; packets = new_past slot }

-- the session behind a command, and its version under the next number
abbrev pub next_session : SlotPast → CommandKind → SessionState
next_session past command = (controlled past.session command).0

abbrev pub next_version : SlotPast → CommandKind → VersionState
next_version past command = version_of (next_session past command) (past.commands + 1)

-- A command steps the session, whose version is learnt then.
abbrev pub commanded : SlotPast → CommandKind → SlotPast
commanded past command = record {
  session = next_session past command;
  commands = past.commands + 1;
  packets = (learnt past.packets (next_version past command)).0;
}

-- A packet is judged by what is remembered, and the session stays.
abbrev pub met : SlotPast → Packet → SlotPast
met past packet = record past { packets = (judged past.packets packet).0 }

-- what becomes of them: a reply with its effects, and a verdict
abbrev pub command_happens : SlotPast → CommandKind → Happened
command_happens past command =
    Replied (controlled past.session command).1 (learnt past.packets (next_version past command)).1

abbrev pub packet_happens : SlotPast → Packet → Happened
packet_happens past packet = Judged (judged past.packets packet).1

-- the past behind an event, and what becomes of the event
unfoldable pub happens : SlotPast → Event → SlotPast × Happened
happens past (event.Command command) = (commanded past command, command_happens past command)
happens past (event.Packet packet) = (met past packet, packet_happens past packet)

abbrev pub behind : SlotPast → Event → SlotPast
behind past now = (happens past now).0

-- the past of a slot behind these events
abbrev pub past_of : ℕ → List Event → SlotPast
past_of slot events = fold behind (new_slot slot) events

-- the session, and the version that packets go by
abbrev pub session_after : ℕ → List Event → SessionState
session_after slot events = (past_of slot events).session

abbrev pub version_after : ℕ → List Event → VersionState
version_after slot events = (past_of slot events).packets.version

-- what becomes of an event, the reply to a command and its effects, and the verdict on a packet, behind the events
-- before it
abbrev pub happened_after : ℕ → List Event → Event → Happened
happened_after slot before now = (happens (past_of slot before) now).1

abbrev pub reply_after : ℕ → List Event → CommandKind → Reply
reply_after slot before command = (controlled (session_after slot before) command).1

abbrev pub effects_after : ℕ → List Event → CommandKind → List Effect
effects_after slot before command =
    (learnt (past_of slot before).packets (next_version (past_of slot before) command)).1

abbrev pub verdict_after : ℕ → List Event → Packet → Verdict
verdict_after slot before packet = (judged (past_of slot before).packets packet).1

-- the charging records of a slot, in the order of what made them, and the open counters of its lives
abbrev pub records_after : ℕ → List Event → List Charged
records_after slot events = rows_of (past_of slot events).packets.charged

abbrev pub opens_after : ℕ → List Event → List Counters
opens_after slot events = opens_of (past_of slot events).packets.charged

-- the records that events make behind the events before them
abbrev pub records_made : ℕ → List Event → List Event → List Charged
records_made slot before now = drop (length (records_after slot before)) (records_after slot (before ++ now))
