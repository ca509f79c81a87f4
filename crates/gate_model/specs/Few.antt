-- Events whose count may rise charge few things, and few packets are held.
use Rattle.std.specs.Prelude.{ℕ, ◌≤◌, List, length}
use Rattle.control_steps.specs.declared.command.CommandKind.{CommandKind}
use Rattle.packet_steps.specs.Standing.{AreFew, Follows}
use Rattle.gate_model.specs.declared.event.Event.{Event}
use Rattle.gate_model.specs.Events.{MayRise}
use Rattle.gate_model.specs.SlotPast.{past_of, next_version}

-- behind them each count of what is charged may rise
abbrev pub FewEventsAreFew : Type 0
FewEventsAreFew = (slot : ℕ) (events : List Event) → MayRise (length events)
    → AreFew (past_of slot events).packets.charged

-- and the version that one command more leaves may follow
abbrev pub FewCommandsFollow : Type 0
FewCommandsFollow = (slot : ℕ) (events : List Event) (command : CommandKind) → MayRise (length events)
    → Follows (past_of slot events).packets (next_version (past_of slot events) command)

-- no more than sixteen packets are held
abbrev pub AtMostSixteenAreHeld : Type 0
AtMostSixteenAreHeld = (slot : ℕ) (events : List Event) → length (past_of slot events).packets.held ≤ 16
