-- That what is told has octets.
use Rattle.std.specs.Prelude.{ℕ, List, All}
use Rattle.demux.specs.Trace.{Meaning}
use Rattle.report_lines.specs.Records.{KeepsEffect, KeepsReply, KeepsVerdict}
use Rattle.report_lines.specs.declared.entry.Entry.{Entry}
use Rattle.report_lines.specs.declared.entry.Entry.TheVariants as entry
use Rattle.report_lines.specs.declared.entry.LineEntry.{LineEntry}
use Rattle.report_lines.specs.declared.entry.LineEntry.TheVariants as line
use Rattle.lawful_run.specs.Report.{Report, entries_of}
use Rattle.lawful_run.specs.Run.{IsRun}
use Rattle.lawful_run.specs.Setup.{Setup}

-- a message of a reply, a packet that goes on, and a notification for one that waits
abbrev pub LineHasOctets : LineEntry → Type 0
LineHasOctets (line.N noted) = Unit {0}
LineHasOctets (line.C answered) = KeepsReply answered.reply
LineHasOctets (line.P judged) = KeepsVerdict judged.verdict
LineHasOctets (line.F refused) = Unit {0}

-- and an End Marker, and a packet that was held and goes on
abbrev pub HasItsOctets : Entry → Type 0
HasItsOctets (entry.Line of_line) = LineHasOctets of_line
HasItsOctets (entry.Effect effected) = KeepsEffect effected.effect
HasItsOctets (entry.Charge of_charge) = Unit {0}

abbrev pub ToldHaveOctets : Type 0
ToldHaveOctets = (setup : Setup) (slots : ℕ) (made : List (List Meaning)) (report : Report)
    → IsRun setup slots made report → All HasItsOctets (entries_of report)
