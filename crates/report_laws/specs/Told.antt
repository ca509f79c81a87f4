-- What a report tells of some slots. A test says of each slot whether it is one of them.
use Rattle.std.specs.Prelude.{◌≡◌, ℕ, ◌==◌, Bool, true, false, List, map, filter, flat_map}
use Rattle.report_lines.specs.Records.{Effected}
use Rattle.report_lines.specs.declared.entry.ChargeEntry.{ChargeEntry}
use Rattle.report_lines.specs.declared.entry.ChargeEntry.TheVariants.{R, O}
use Rattle.report_lines.specs.declared.entry.LineEntry.{LineEntry}
use Rattle.report_lines.specs.declared.entry.LineEntry.TheVariants as line
use Rattle.lawful_run.specs.Report.{EpochReport, Report}

-- the entry of a line tells of one of them (C, P, F); a note (N) tells of none
abbrev pub tells_of : (ℕ → Bool) → LineEntry → Bool
tells_of own (line.N noted) = false
tells_of own (line.C answered) = own answered.slot
tells_of own (line.P judged) = own judged.slot
tells_of own (line.F refused) = own refused.slot

-- an effect is one of theirs (M, H), and so is a charging record (R) or an open counter (O)
abbrev pub is_effect_of : (ℕ → Bool) → Effected → Bool
is_effect_of own effected = own effected.slot

abbrev pub is_charge_of : (ℕ → Bool) → ChargeEntry → Bool
is_charge_of own (R slot row) = own slot
is_charge_of own (O slot counters) = own slot

-- what an epoch tells of them, and what a report does
abbrev pub epoch_of : (ℕ → Bool) → EpochReport → EpochReport
epoch_of own told = record {
  lines = filter (tells_of own) told.lines;
  effects = filter (is_effect_of own) told.effects;
  rows = filter (is_charge_of own) told.rows;
}

abbrev pub opens_of : (ℕ → Bool) → Report → List ChargeEntry
opens_of own report = filter (is_charge_of own) report.opens

abbrev pub report_of : (ℕ → Bool) → Report → Report
report_of own report = record { epochs = map (epoch_of own) report.epochs; opens = opens_of own report }

-- all epochs of a report as one, kind by kind
abbrev pub in_one : Report → EpochReport
in_one report = record {
  lines = flat_map (λ (told : EpochReport). told.lines) report.epochs;
  effects = flat_map (λ (told : EpochReport). told.effects) report.epochs;
  rows = flat_map (λ (told : EpochReport). told.rows) report.epochs;
}

-- one slot alone
abbrev pub only : ℕ → ℕ → Bool
only slot at = at == slot

-- Two reports tell the same of these slots, over all epochs: the entries of their lines in order; of each its effects
-- and its charging records, each kind in order; and their open counters in order.
pub record TellTheSame (own : ℕ → Bool) (report other : Report) : Type 0 where
  pub lines : filter (tells_of own) (in_one report).lines ≡ filter (tells_of own) (in_one other).lines
  pub each : (slot : ℕ) → own slot ≡ true
      → epoch_of (only slot) (in_one report) ≡ epoch_of (only slot) (in_one other)
  pub opens : opens_of own report ≡ opens_of own other
