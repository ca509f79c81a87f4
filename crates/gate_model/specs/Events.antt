-- The events of a slot.
use Rattle.std.specs.Prelude.{ℕ, ◌<◌, ◌^◌, List, Option, Some, None}
use Rattle.std.specs.List.{filter_map}
use Rattle.pc_base.specs.declared.packet.Packet.{Packet}
use Rattle.control_steps.specs.declared.command.CommandKind.{CommandKind}
use Rattle.gate_model.specs.declared.event.Event.{Event}
use Rattle.gate_model.specs.declared.event.Event.TheVariants as event

abbrev pub as_command : Event → Option CommandKind
as_command (event.Command command) = Some command
as_command (event.Packet packet) = None

abbrev pub as_packet : Event → Option Packet
as_packet (event.Command command) = None
as_packet (event.Packet packet) = Some packet

-- the commands of some events, and their packets
abbrev pub commands_of : List Event → List CommandKind
commands_of events = filter_map as_command events

abbrev pub packets_of : List Event → List Packet
packets_of events = filter_map as_packet events

-- So many events of a slot are few: each count that they raise may rise once more. A trace has no more lines. Whatever
-- bounds what comes to a slot asks for this.
abbrev pub FewEvents : ℕ → Type 0
FewEvents count = count < 2 ^ 40

-- Counts may rise once more where they are below this: those of a saved state are below 2^50, two of them together
-- below 2^51, and few events follow.
abbrev pub MayRise : ℕ → Type 0
MayRise count = count < 2 ^ 52
