-- The sentences of all slots together are those of the lawful run.
use Rattle.std.specs.Prelude.{◌≡◌, ℕ, ◌↔◌, List, length, filter_map}
use Rattle.demux.specs.Trace.{Meaning}
use Rattle.gate_model.specs.Events.{commands_of, packets_of}
use Rattle.report_lines.specs.declared.entry.LineEntry.{LineEntry}
use Rattle.lawful_run.specs.Accepted.{commands_accepted, packets_accepted}
use Rattle.lawful_run.specs.Answers.{AnswersAll}
use Rattle.lawful_run.specs.Bounds.{MeetsBounds, Rises, count_before}
use Rattle.lawful_run.specs.Setup.{solo, sliced}
use Rattle.lawful_run.specs.LinesTold.{LineTold, lines_told, EachLine}
use Rattle.lawful_run.specs.Merging.{Histories}
use Rattle.lawful_run.specs.Parking.{ParkedBehindMoves}
use Rattle.lawful_run.specs.Telling.{command_number, packet_number, commands_told, counted}
use Rattle.audit_core.specs.OfSlot.{NumberOn, CountsRise, HasAll, ParksWell}

-- how the lawful run numbers commands and packets
pub record NumbersHold (before : Histories) (made : List Meaning) (entries : List LineEntry) : Type 0 where
  pub command_numbers : (slot : ℕ) → filter_map (command_number slot) entries
      ≡ counted (length (commands_of (before slot))) (length (commands_accepted slot (lines_told made entries)))
  pub packet_numbers : (slot : ℕ) → filter_map (packet_number slot) entries
      ≡ counted (length (packets_of (before slot))) (length (packets_accepted slot (lines_told made entries)))

abbrev pub NumbersAreOfSlots : Type 0
NumbersAreOfSlots = (before : Histories) (first : ℕ) (made : List Meaning) (entries : List LineEntry)
    → AnswersAll first made entries
    → NumbersHold before made entries
    ↔ ((slot : ℕ) → NumberOn slot (length (commands_of (before slot))) (length (packets_of (before slot)))
    (lines_told made entries))

-- how the counts of commands lie where slices share the work
pub record CountsHold (slices room lane : ℕ) (before : Histories) (made : List Meaning) (entries : List LineEntry) :
    Type 0 where
  pub counts_rise : (slot : ℕ) → Rises (count_before before slot) (filter_map (commands_told slot) entries)
  pub bounds : EachLine (MeetsBounds (sliced slices room lane) before) (lines_told made entries)

abbrev pub CountsAreOfSlots : Type 0
CountsAreOfSlots =
    (slices room lane : ℕ) (before : Histories) (first : ℕ) (made : List Meaning) (entries : List LineEntry)
    → AnswersAll first made entries
    → CountsHold slices room lane before made entries
    ↔ ((slot : ℕ) → CountsRise slot (count_before before slot) (lines_told made entries))

-- how they do on one thread
abbrev pub InSequenceIsOfSlots : Type 0
InSequenceIsOfSlots = (before : Histories) (lines : List LineTold)
    → EachLine (MeetsBounds solo before) lines
    ↔ ((slot : ℕ) → EachLine (HasAll slot (count_before before slot)) lines)

-- where packets are parked
abbrev pub ParkingIsOfSlots : Type 0
ParkingIsOfSlots = (lines : List LineTold) → EachLine ParkedBehindMoves lines
    ↔ ((slot : ℕ) → EachLine (ParksWell slot) lines)
