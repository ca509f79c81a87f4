-- How many packets of a slot a report tells between two lines of the trace.
use Rattle.std.specs.Prelude.{ℕ, ◌==◌, ◌&&◌, Bool, false, List, Option, None, Some, nat_lt}
use Rattle.std.specs.List.{count_by}
use Rattle.audit_core.specs.declared.sharing.Keyed.{Keyed}
use Rattle.report_lines.specs.declared.entry.Entry.{Entry}
use Rattle.report_lines.specs.declared.entry.Entry.TheVariants as entry
use Rattle.report_lines.specs.declared.entry.LineEntry.{LineEntry}
use Rattle.report_lines.specs.declared.entry.LineEntry.TheVariants as of_line

-- it answers a packet of the slot, on a line that passes a test
abbrev pub answers_packet : (ℕ → Bool) → ℕ → LineEntry → Bool
answers_packet on slot (of_line.N noted) = false
answers_packet on slot (of_line.C answered) = false
answers_packet on slot (of_line.P judged) = (judged.slot == slot) && on judged.line
answers_packet on slot (of_line.F refused) = false

abbrev pub tells_packet : (ℕ → Bool) → ℕ → Entry → Bool
tells_packet on slot (entry.Line own) = answers_packet on slot own
tells_packet on slot (entry.Effect own) = false
tells_packet on slot (entry.Charge own) = false

-- the lines behind one and before another
abbrev pub is_between : (since until line : ℕ) → Bool
is_between since until line = nat_lt since line && nat_lt line until

abbrev pub packets_on : (ℕ → Bool) → List Entry → ℕ → ℕ
packets_on on entries slot = count_by (tells_packet on slot) entries

abbrev pub packets_between : (since until : ℕ) → List Entry → ℕ → ℕ
packets_between since until entries slot = packets_on (is_between since until) entries slot

-- the slot of a packet that an entry answers, under the number of its line
abbrev pub line_packet : LineEntry → Option (Keyed ℕ)
line_packet (of_line.N noted) = None
line_packet (of_line.C answered) = None
line_packet (of_line.P judged) = Some (record { key = judged.line; item = judged.slot })
line_packet (of_line.F refused) = None

abbrev pub packet_in : Entry → Option (Keyed ℕ)
packet_in (entry.Line own) = line_packet own
packet_in (entry.Effect own) = None
packet_in (entry.Charge own) = None
