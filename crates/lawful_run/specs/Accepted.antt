-- Which commands and packets of a slot were accepted.
use Rattle.std.specs.Prelude.{ℕ, ◌==◌, Bool, true, false, if◌then◌else◌, Option, Some, None, List, filter_map, length}
use Rattle.std.specs.Option.{option_map}
use Rattle.control_steps.specs.declared.command.CommandKind.{CommandKind}
use Rattle.demux.specs.Trace.{Meaning, command, packet, move, note}
use Rattle.demux.specs.declared.packet.LentPacket.{LentPacket}
use Rattle.report_lines.specs.declared.entry.LineEntry.{LineEntry}
use Rattle.report_lines.specs.declared.entry.LineEntry.TheVariants as line
use Rattle.lawful_run.specs.LinesTold.{LineTold}

-- whether an entry refuses its line
abbrev pub is_refused : LineEntry → Bool
is_refused (line.N noted) = false
is_refused (line.C answered) = false
is_refused (line.P judged) = false
is_refused (line.F refused) = true

-- the command or packet of a slot that a line brings
abbrev pub command_for : ℕ → Meaning → Option CommandKind
command_for slot (command own c) = if own == slot then Some c else None
command_for slot (packet own p) = None
command_for slot (move own slice text) = None
command_for slot (note text) = None

abbrev pub packet_for : ℕ → Meaning → Option LentPacket
packet_for slot (command own c) = None
packet_for slot (packet own p) = if own == slot then Some p else None
packet_for slot (move own slice text) = None
packet_for slot (note text) = None

-- how many commands of its slot an entry tells before a packet
abbrev pub commands_before : LineEntry → ℕ
commands_before (line.N noted) = 0
commands_before (line.C answered) = 0
commands_before (line.P judged) = judged.commands
commands_before (line.F refused) = 0

-- an accepted packet, and how many commands of its slot stand before it
pub record Placed : Type 0 where
  pub commands : ℕ
  pub packet : LentPacket

-- a line is accepted where it brings a command or packet and isn't refused
abbrev pub accepted_command : ℕ → LineTold → Option CommandKind
accepted_command slot told = if is_refused told.entry then None else command_for slot told.meaning

abbrev pub accepted_packet : ℕ → LineTold → Option Placed
accepted_packet slot told =
    if is_refused told.entry then None
    else option_map (λ p. record { commands = commands_before told.entry; packet = p }) (packet_for slot told.meaning)

-- those of a slot among some lines
abbrev pub commands_accepted : ℕ → List LineTold → List CommandKind
commands_accepted slot lines = filter_map (accepted_command slot) lines

abbrev pub packets_accepted : ℕ → List LineTold → List Placed
packets_accepted slot lines = filter_map (accepted_packet slot) lines

-- how many commands
abbrev pub command_count : ℕ → List LineTold → ℕ
command_count slot lines = length (commands_accepted slot lines)
