-- Which versions the packets of a slot go by.
use Rattle.std.specs.Prelude.{◌≡◌, ℕ, List, [], ◌∷◌, ◌++◌, fold, length}
use Rattle.pc_base.specs.declared.packet.Packet.{Packet}
use Rattle.bearer_state.specs.Session.{SessionState, new_session}
use Rattle.bearer_state.specs.Version.{version_of}
use Rattle.control_steps.specs.declared.command.CommandKind.{CommandKind}
use Rattle.control_steps.specs.Table.{controlled}
use Rattle.packet_steps.specs.Change.{learnt}
use Rattle.packet_steps.specs.Standing.{OpenAreActive, AreFew, Follows}
use Rattle.gate_model.specs.declared.event.Event.{Event}
use Rattle.gate_model.specs.declared.event.Event.TheVariants as event
use Rattle.gate_model.specs.Events.{commands_of}
use Rattle.gate_model.specs.SlotPast.{past_of, session_after, version_after, next_version, commanded, met}

-- the control table folded over commands
abbrev pub controlled_by : SessionState → List CommandKind → SessionState
controlled_by session commands =
    fold (λ (s : SessionState) (command : CommandKind). (controlled s command).0) session commands

-- packets change nothing of a session, which depends on the commands alone
abbrev pub SessionsAreOfCommands : Type 0
SessionsAreOfCommands = (slot : ℕ) (events : List Event)
    → session_after slot events ≡ controlled_by (new_session slot) (commands_of events)

-- no event changes a session's slot
abbrev pub SessionsKeepTheirSlot : Type 0
SessionsKeepTheirSlot = (slot : ℕ) (events : List Event) → (session_after slot events).slot ≡ slot

-- packets go by the session's version, under the number of commands so far
abbrev pub VersionsAreOfCommands : Type 0
VersionsAreOfCommands = (slot : ℕ) (events : List Event)
    → version_after slot events ≡ version_of (controlled_by (new_session slot) (commands_of events))
    (length (commands_of events))

-- the version that a command leaves may follow on the past before it, as long as few things happened
abbrev pub EachVersionFollows : Type 0
EachVersionFollows = (slot : ℕ) (events : List Event) (command : CommandKind)
    → let past = past_of slot events in
    AreFew (learnt past.packets (next_version past command)).0.charged
    → Follows past.packets (next_version past command)

-- the lives that are open in the book are those of the active bearers
abbrev pub OpenLivesAreActive : Type 0
OpenLivesAreActive = (slot : ℕ) (events : List Event) → OpenAreActive (past_of slot events).packets

-- the past behind one event more
abbrev pub CommandsAreLearnt : Type 0
CommandsAreLearnt = (slot : ℕ) (events : List Event) (command : CommandKind)
    → past_of slot (events ++ event.Command command ∷ []) ≡ commanded (past_of slot events) command

abbrev pub PacketsAreJudged : Type 0
PacketsAreJudged = (slot : ℕ) (events : List Event) (packet : Packet)
    → past_of slot (events ++ event.Packet packet ∷ []) ≡ met (past_of slot events) packet
