-- A report: its epochs, and the open counters behind them.
use Rattle.std.specs.Prelude.{ℕ, Bool, List, [], ◌∷◌, ◌++◌, map, flat_map}
use Rattle.report_lines.specs.declared.entry.Entry.{Entry}
use Rattle.report_lines.specs.declared.entry.Entry.TheVariants as entry
use Rattle.report_lines.specs.declared.entry.LineEntry.{LineEntry}
use Rattle.report_lines.specs.declared.entry.ChargeEntry.{ChargeEntry}
use Rattle.report_lines.specs.Records.{Effected}
use Rattle.report_lines.specs.Text.{entry_text, shown}

-- the entries of an epoch's lines, the effects of its commands, and the charging records that were made in it
pub record EpochReport : Type 0 where
  pub lines : List LineEntry
  pub effects : List Effected
  pub rows : List ChargeEntry

pub record Report : Type 0 where
  pub epochs : List EpochReport
  pub opens : List ChargeEntry

-- the entries in the order in which they are told
abbrev pub epoch_entries : EpochReport → List Entry
epoch_entries told = map entry.Line told.lines ++ (map entry.Effect told.effects ++ map entry.Charge told.rows)

abbrev pub entries_of : Report → List Entry
entries_of report = flat_map epoch_entries report.epochs ++ map entry.Charge report.opens

-- a text has a line for each entry; places and what was parked are told, or left out
abbrev pub texts_of : Bool → List Entry → List ℕ
texts_of places entries = flat_map (λ told. entry_text (shown places told) ++ 10 ∷ []) entries

abbrev pub report_text : Bool → Report → List ℕ
report_text places report = texts_of places (entries_of report)
