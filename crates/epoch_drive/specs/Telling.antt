-- The report of what is told of an epoch.
use Rattle.std.specs.Prelude.{ℕ, List, All, map}
use Rattle.std.specs.Borrow.{Bor}
use Rattle.packet_steps.specs.Lent.{verdict_of}
use Rattle.packet_steps.specs.declared.lent.LentVerdict.{LentVerdict}
use Rattle.report_lines.specs.Lent.{IsShort}
use Rattle.report_lines.specs.declared.entry.LineEntry.{LineEntry}
use Rattle.report_lines.specs.declared.entry.LineEntry.TheVariants as line_entry
use Rattle.lawful_run.specs.Report.{EpochReport}
use Rattle.slot_execution.specs.Replaying.{effects_told, rows_told}
use Rattle.slot_execution.specs.declared.told.ToldEntry.{ToldEntry}
use Rattle.slot_execution.specs.declared.told.ToldEntry.TheVariants as entry
use Rattle.slot_execution.specs.declared.told.ToldEpoch.{ToldEpoch}

-- what is told of a driven line, and of an epoch: the octets lie in the lines
abbrev pub DrivenTold : Type 0
DrivenTold = ToldEntry (Bor (List ℕ)) LentVerdict

abbrev pub EpochTold : Type 0
EpochTold = ToldEpoch (Bor (List ℕ)) LentVerdict

abbrev pub line_told : ToldEntry (Bor (List ℕ)) LentVerdict → LineEntry
line_told (entry.Note n text) = line_entry.N (record { line = n; note = text.now })
line_told (entry.Answer n slot number reply) =
    line_entry.C (record { line = n; slot = slot; number = number; reply = reply })
line_told (entry.Judgement n slot number commands verdict place parked) = line_entry.P (record {
  line = n;
  slot = slot;
  number = number;
  commands = commands;
  verdict = verdict_of verdict;
  place = place;
  parked = parked;
})
line_told (entry.Refusal n slot packet) = line_entry.F (record { line = n; slot = slot; packet = packet })

-- each verdict that is told can be written: what goes down is no longer than IPv4 allows
abbrev pub IsShortEntry : ToldEntry (Bor (List ℕ)) LentVerdict → Type 0
IsShortEntry (entry.Note n text) = Unit {0}
IsShortEntry (entry.Answer n slot number reply) = Unit {0}
IsShortEntry (entry.Judgement n slot number commands verdict place parked) = IsShort verdict
IsShortEntry (entry.Refusal n slot packet) = Unit {0}

abbrev pub AreShort : List DrivenTold → Type 0
AreShort entries = All IsShortEntry entries

-- the entries of the lines, the effects and the charging records
abbrev pub told_by : EpochTold → EpochReport
told_by epoch = record {
  lines = map line_told epoch.lines.items;
  effects = effects_told epoch.effects.items;
  rows = rows_told epoch.rows.items;
}
