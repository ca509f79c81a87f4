-- The lines of a report.
use Rattle.std.specs.Prelude.{ℕ, false, Some, List, [], ◌∷◌, ◌++◌}
use Rattle.pc_base.specs.declared.packet.Place.TheVariants.{Closing}
use Rattle.pc_base.specs.declared.packet.Verdict.{Verdict}
use Rattle.report_lines.specs.Records.{PacketTold}
use Rattle.report_lines.specs.Text.{entry_text, shown}
use Rattle.report_lines.specs.declared.entry.Entry.{Entry}

-- an entry, without a place, and a newline
abbrev pub text_line : Entry → List ℕ
text_line told = entry_text (shown false told) ++ 10 ∷ []

-- the verdict on a slot's packet of this number, behind so many of its commands, handled in sequence
abbrev pub judged_by : ℕ → ℕ → ℕ → ℕ → Verdict → PacketTold
judged_by line slot number commands verdict = record {
  line = line;
  slot = slot;
  number = number;
  commands = commands;
  verdict = verdict;
  place = Some Closing;
  parked = false;
}
