-- What the lines of an epoch mean, with their entries.
use Rattle.std.specs.Prelude.{ℕ, ◌==◌, Bool, true, false, if◌then◌else◌, Option, Some, None, List, map, filter}
use Rattle.control_steps.specs.declared.command.CommandKind.{CommandKind}
use Rattle.demux.specs.declared.packet.LentPacket.{LentPacket}
use Rattle.demux.specs.Trace.{Meaning, command, packet, move, note}
use Rattle.lawful_run.specs.Accepted.{is_refused}
use Rattle.lawful_run.specs.LinesTold.{LineTold}
use Rattle.slot_execution.specs.Kept.{IsPlaced, meaning_in}
use Rattle.audit_core.specs.declared.told_line.ToldLine.{ToldLine}

-- a line of the trace with its entry, as the program holds them
abbrev pub line_told : ToldLine → LineTold
line_told told = record { meaning = meaning_in told.octets.now told.meant.now; entry = told.entry.now }

abbrev pub lines_of : List ToldLine → List LineTold
lines_of lines = map line_told lines

-- its packet stands among the octets
abbrev pub StandsTold : ToldLine → Type 0
StandsTold told = IsPlaced told.octets.now told.meant.now

-- the slot that a line is about
abbrev pub slot_in : Meaning → Option ℕ
slot_in (command slot c) = Some slot
slot_in (packet slot p) = Some slot
slot_in (move slot slice text) = Some slot
slot_in (note text) = None

abbrev pub is_move : Meaning → Bool
is_move (command slot c) = false
is_move (packet slot p) = false
is_move (move slot slice text) = true
is_move (note text) = false

-- the command or packet of an accepted line
abbrev pub command_in : Meaning → Option CommandKind
command_in (command slot c) = Some c
command_in (packet slot p) = None
command_in (move slot slice text) = None
command_in (note text) = None

abbrev pub packet_in : Meaning → Option LentPacket
packet_in (command slot c) = None
packet_in (packet slot p) = Some p
packet_in (move slot slice text) = None
packet_in (note text) = None

abbrev pub command_taken : LineTold → Option CommandKind
command_taken told = if is_refused told.entry then None else command_in told.meaning

abbrev pub packet_taken : LineTold → Option LentPacket
packet_taken told = if is_refused told.entry then None else packet_in told.meaning

-- whether a line is about a slot
abbrev pub is_about_by : ℕ → Meaning → Bool
is_about_by slot (command own c) = own == slot
is_about_by slot (packet own p) = own == slot
is_about_by slot (move own slice text) = own == slot
is_about_by slot (note text) = false

abbrev pub is_about : ℕ → LineTold → Bool
is_about slot told = is_about_by slot told.meaning

-- the lines about a slot
abbrev pub share : ℕ → List LineTold → List LineTold
share slot lines = filter (is_about slot) lines
