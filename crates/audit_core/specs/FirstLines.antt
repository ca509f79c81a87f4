-- The second sentence and a part of the sixth: the first line of an epoch up to which the lines break them.
use Rattle.std.specs.Prelude.{ℕ, ◌+◌, ◌==◌, if◌then◌else◌, List, length, decimal}
use Rattle.gate_model.specs.Events.{packets_of}
use Rattle.report_lines.specs.declared.entry.LineEntry.{LineEntry}
use Rattle.report_lines.specs.declared.entry.LineEntry.TheVariants as line
use Rattle.lawful_run.specs.Accepted.{packets_accepted}
use Rattle.lawful_run.specs.Bounds.{MeetsBounds, count_in_sequence}
use Rattle.lawful_run.specs.LinesTold.{LineTold, EachLine}
use Rattle.lawful_run.specs.Merging.{Histories}
use Rattle.lawful_run.specs.Parking.{ParkedBehindMoves}
use Rattle.lawful_run.specs.Refusals.{RefusedWhereFull}
use Rattle.lawful_run.specs.Setup.{Setup, solo, sliced}
use Rattle.audit_core.specs.Telling.{dash}

-- the number that an entry has to have: the commands or packets of its slot before it
abbrev pub number_due : Histories → List LineTold → LineEntry → List ℕ
number_due histories before (line.N noted) = dash
number_due histories before (line.C answered) = decimal (count_in_sequence histories answered.slot before)
number_due histories before (line.P judged) =
    decimal (length (packets_of (histories judged.slot)) + length (packets_accepted judged.slot before))
number_due histories before (line.F refused) = dash

-- On one thread each packet has just the commands before its line.
abbrev pub InSequence : Setup → Histories → List LineTold → Type 0
InSequence solo histories lines = EachLine (MeetsBounds solo histories) lines
InSequence (sliced slices room lane) histories lines = Unit {0}

-- The lines up to one are refused, parked and, on one thread, handled only where they may be.
pub record MayStand (setup : Setup) (histories : Histories) (lines : List LineTold) : Type 0 where
  pub refusals : EachLine (RefusedWhereFull setup) lines
  pub parking : EachLine ParkedBehindMoves lines
  pub sequence : InSequence setup histories lines

-- the count that a packet has to have where it has another
abbrev pub count_due : ℕ → ℕ → List ℕ
count_due told due = if told == due then dash else decimal due

abbrev pub due_of : Setup → Histories → List LineTold → LineEntry → List ℕ
due_of setup histories before (line.N noted) = dash
due_of setup histories before (line.C answered) = dash
due_of solo histories before (line.P judged) =
    count_due judged.commands (count_in_sequence histories judged.slot before)
due_of (sliced slices room lane) histories before (line.P judged) = dash
due_of setup histories before (line.F refused) = dash
