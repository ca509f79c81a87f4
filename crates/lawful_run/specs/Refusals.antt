-- Where a command or packet may be refused: only where its queue or lane could be full.
use Rattle.std.specs.Prelude.{ℕ, ◌+◌, ◌*◌, ◌==◌, ◌≤◌, ◌⊎◌, Bool, true, false, if◌then◌else◌}
use Rattle.std.specs.Prelude.{IsTrue, Option, Some, None, List, [], ◌∷◌, ◌++◌, length, count_by, filter_map}
use Rattle.std.specs.List.{list_any}
use Rattle.demux.specs.Trace.{Meaning, command, packet, move, note}
use Rattle.report_lines.specs.declared.entry.LineEntry.{LineEntry}
use Rattle.report_lines.specs.declared.entry.LineEntry.TheVariants as line
use Rattle.lawful_run.specs.Accepted.{is_refused, command_count, packets_accepted}
use Rattle.lawful_run.specs.Setup.{Setup, solo, sliced}
use Rattle.lawful_run.specs.LinesTold.{LineTold}
use Rattle.lawful_run.specs.Moves.{is_moved}

-- the packets of all slots that were accepted
abbrev pub is_packet : Meaning → Bool
is_packet (command slot c) = false
is_packet (packet slot p) = true
is_packet (move slot slice text) = false
is_packet (note text) = false

abbrev pub packet_count : List LineTold → ℕ
packet_count lines = count_by (λ told. if is_refused told.entry then false else is_packet told.meaning) lines

-- the slots with a command or packet, accepted or not
abbrev pub slot_by : Meaning → Option ℕ
slot_by (command slot c) = Some slot
slot_by (packet slot p) = Some slot
slot_by (move slot slice text) = None
slot_by (note text) = None

abbrev pub slot_of : LineTold → Option ℕ
slot_of told = slot_by told.meaning

abbrev pub different : List ℕ → ℕ
different [] = 0
different (slot ∷ slots) = if list_any (λ other. other == slot) slots then different slots else different slots + 1

abbrev pub slot_count : List LineTold → ℕ
slot_count lines = different (filter_map slot_of lines)

-- the moves of all slots
abbrev pub is_move : Meaning → Bool
is_move (command slot c) = false
is_move (packet slot p) = false
is_move (move slot slice text) = true
is_move (note text) = false

abbrev pub move_count : List LineTold → ℕ
move_count lines = count_by (λ told. is_move told.meaning) lines

-- how many items a slice's lane may have been given: packets, an arrival for each slot, a leave and an arrival for
-- each move
abbrev pub lane_load : List LineTold → LineTold → ℕ
lane_load before now = packet_count before + slot_count (before ++ now ∷ []) + 2 * move_count before

-- a packet is refused where its slice's lane could be full, or where it was parked and the queue of its slot could be
abbrev pub MayRefusePacket : ℕ → ℕ → ℕ → List LineTold → LineTold → Type 0
MayRefusePacket room lane slot before now =
    (lane ≤ lane_load before now) ⊎ (IsTrue (is_moved slot before) × (room ≤ length (packets_accepted slot before)))

-- a command is refused where the queue of its slot could be full
abbrev pub MayRefuseCommand : ℕ → ℕ → List LineTold → Type 0
MayRefuseCommand room slot before = room ≤ command_count slot before

-- on one thread nothing is refused
abbrev pub MayRefuse : Setup → ℕ → Bool → List LineTold → LineTold → Type 0
MayRefuse solo slot of_packet before now = ⊥
MayRefuse (sliced slices room lane) slot true before now = MayRefusePacket room lane slot before now
MayRefuse (sliced slices room lane) slot false before now = MayRefuseCommand room slot before

abbrev pub RefusedAs : Setup → List LineTold → LineTold → LineEntry → Type 0
RefusedAs setup before now (line.N noted) = Unit {0}
RefusedAs setup before now (line.C answered) = Unit {0}
RefusedAs setup before now (line.P judged) = Unit {0}
RefusedAs setup before now (line.F refused) = MayRefuse setup refused.slot refused.packet before now

abbrev pub RefusedWhereFull : Setup → List LineTold → LineTold → List LineTold → Type 0
RefusedWhereFull setup before now later = RefusedAs setup before now now.entry
