-- What is kept of an epoch's lines that were taken so far.
use Rattle.std.specs.Prelude.{◌≡◌, ℕ, ◌+◌, ◌==◌, ◌≤◌, Bool, true, false, Option, Some, None}
use Rattle.std.specs.Prelude.{List, [], ◌∷◌, ◌++◌, length, map, filter_map, is_some}
use Rattle.std.specs.List.{list_any}
use Rattle.control_steps.specs.declared.command.CommandKind.{CommandKind}
use Rattle.demux.specs.Trace.{Meaning}
use Rattle.demux.specs.declared.packet.LentPacket.{LentPacket}
use Rattle.report_lines.specs.declared.entry.LineEntry.{LineEntry}
use Rattle.lawful_run.specs.Accepted.{Placed, commands_accepted, packets_accepted}
use Rattle.lawful_run.specs.Answers.{AnswersAll}
use Rattle.lawful_run.specs.LinesTold.{LineTold, lines_told, EachLine}
use Rattle.lawful_run.specs.Moves.{is_moved}
use Rattle.lawful_run.specs.Parking.{ParkedBehindMoves}
use Rattle.lawful_run.specs.Refusals.{RefusedWhereFull, slot_of, packet_count, slot_count, move_count}
use Rattle.lawful_run.specs.Setup.{sliced}
use Rattle.lawful_run.specs.Marks.{AllParked, marks_since}
use Rattle.lawful_run.specs.Floors.{command_floor, packet_floor, command_floors, packet_floors}

-- Of a subscriber that is split: its commands and packets before, those since with what each waits for, and the
-- numbers of its commands and packets before its last move.
pub record Ends : Type 0 where
  pub first_command : ℕ
  pub first_packet : ℕ
  pub commands : List CommandKind
  pub command_floors : List ℕ
  pub packets : List LentPacket
  pub packet_floors : List ℕ
  pub commands_before : ℕ
  pub packets_before : ℕ

abbrev pub new_ends : (first_command first_packet : ℕ) → Ends
new_ends first_command first_packet = record {
  first_command = first_command;
  first_packet = first_packet;
  commands = [];
  command_floors = [];
  packets = [];
  packet_floors = [];
  commands_before = first_command;
  packets_before = first_packet;
}

-- with a command more, with a packet more, and behind a move
abbrev pub with_command : CommandKind → Ends → Ends
with_command c ends = record ends {
  commands = ends.commands ++ c ∷ [];
  command_floors = ends.command_floors ++ ends.packets_before ∷ [];
}

abbrev pub with_packet : LentPacket → Ends → Ends
with_packet p ends = record ends {
  packets = ends.packets ++ p ∷ [];
  packet_floors = ends.packet_floors ++ ends.commands_before ∷ [];
}

abbrev pub moved_on : Ends → Ends
moved_on ends = record ends {
  commands_before = ends.first_command + length ends.commands;
  packets_before = ends.first_packet + length ends.packets;
}

-- they are what the lines tell of the slot
pub record EndsTold (slot : ℕ) (ends : Ends) (taken : List LineTold) : Type 0 where
  pub commands_are : ends.commands ≡ commands_accepted slot taken
  pub command_floors_are : ends.command_floors ≡ command_floors slot ends.first_packet [] taken
  pub packets_are : ends.packets ≡ map (λ (p : Placed). p.packet) (packets_accepted slot taken)
  pub packet_floors_are : ends.packet_floors ≡ packet_floors slot ends.first_command [] taken
  pub commands_before_are : ends.commands_before ≡ packet_floor slot ends.first_command taken
  pub packets_before_are : ends.packets_before ≡ command_floor slot ends.first_packet taken

-- Of a subscriber that isn't split nothing was accepted: whatever its counts are, its ends will be new.
abbrev pub OwnTold : ℕ → Option Ends → List LineTold → Type 0
OwnTold slot None taken =
    (first_command first_packet : ℕ) → EndsTold slot (new_ends first_command first_packet) taken
OwnTold slot (Some ends) taken = EndsTold slot ends taken

-- of a slot: its ends where its subscriber is split, whether it moved, and whether its packets are parked
pub record Part : Type 0 where
  pub own : Option Ends
  pub moved : Bool
  pub parks : Bool

-- whether a line brought a command or packet of a slot
abbrev pub is_seen : ℕ → List LineTold → Bool
is_seen slot taken = list_any (λ own. own == slot) (filter_map slot_of taken)

pub record PartTold (slot : ℕ) (part : Part) (taken : List LineTold) : Type 0 where
  pub own_is : OwnTold slot part.own taken
  -- it is split exactly where a line brought something of it
  pub seen : is_seen slot taken ≡ is_some part.own
  pub moved_is : part.moved ≡ is_moved slot taken
  pub unmarked : part.own ≡ None → marks_since slot taken ≡ []
  -- packets are parked only behind a move, while all since were
  pub parked : part.parks ≡ true → (part.moved ≡ true) × AllParked (marks_since slot taken)

-- how many packets were accepted, how many subscribers are split, and how often a side was asked
pub record Load : Type 0 where
  pub accepted : ℕ
  pub admitted : ℕ
  pub asked : ℕ

pub record LoadTold (load : Load) (taken : List LineTold) : Type 0 where
  pub accepted_are : load.accepted ≡ packet_count taken
  pub admitted_are : load.admitted ≡ slot_count taken
  pub asked_few : load.asked ≤ load.accepted + load.admitted + move_count taken

-- all that is kept: the lines from this number on have their entries, refusals and parking are lawful, and what is
-- known of each slot and of the load is what they tell
pub record LinesKept (slices room lane first : ℕ) (made : List Meaning) (entries : List LineEntry)
    (parts : ℕ → Part) (load : Load) : Type 0 where
  pub answered : AnswersAll first made entries
  pub refused : EachLine (RefusedWhereFull (sliced slices room lane)) (lines_told made entries)
  pub parked : EachLine ParkedBehindMoves (lines_told made entries)
  pub slots : (slot : ℕ) → PartTold slot (parts slot) (lines_told made entries)
  pub load_is : LoadTold load (lines_told made entries)

-- before the first line
abbrev pub no_part : Part
no_part = record { own = None; moved = false; parks = false }

abbrev pub no_load : Load
no_load = record { accepted = 0; admitted = 0; asked = 0 }

abbrev pub NoLineIsKept : Type 0
NoLineIsKept = (slices room lane first : ℕ) → LinesKept slices room lane first [] [] (λ slot. no_part) no_load
