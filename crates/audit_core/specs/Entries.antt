-- The entries of a report as they were read, and where each of them belongs.
use Rattle.std.specs.Prelude.{ℕ, ◌+◌, ◌-◌, ◌==◌, nat_le, if◌then◌else◌, Option, Some, None, List, []}
use Rattle.std.specs.Prelude.{◌∷◌, ◌++◌, length, take, drop, filter, filter_map, flat_map}
use Rattle.demux.specs.Trace.{Meaning}
use Rattle.report_lines.specs.Records.{Effected}
use Rattle.report_lines.specs.declared.entry.ChargeEntry.{ChargeEntry}
use Rattle.report_lines.specs.declared.entry.ChargeEntry.TheVariants as charge
use Rattle.report_lines.specs.declared.entry.Entry.{Entry}
use Rattle.report_lines.specs.declared.entry.Entry.TheVariants as entry
use Rattle.report_lines.specs.declared.entry.LineEntry.{LineEntry}
use Rattle.report_lines.specs.declared.entry.LineEntry.TheVariants as line
use Rattle.lawful_run.specs.LinesTold.{LineTold, lines_told}
use Rattle.lawful_run.specs.Telling.{counted}

-- the number of the line that an entry answers
abbrev pub line_of : LineEntry → ℕ
line_of (line.N noted) = noted.line
line_of (line.C answered) = answered.line
line_of (line.P judged) = judged.line
line_of (line.F refused) = refused.line

-- the entries of lines, as they stand, and in order of the lines' numbers, up to so many
abbrev pub as_line : Entry → Option LineEntry
as_line (entry.Line of_line) = Some of_line
as_line (entry.Effect effect) = None
as_line (entry.Charge charge) = None

abbrev pub line_entries : List Entry → List LineEntry
line_entries entries = filter_map as_line entries

abbrev pub in_line_order : ℕ → List LineEntry → List LineEntry
in_line_order count lines = flat_map (λ n. filter (λ of_line. line_of of_line == n) lines) (counted 1 count)

-- lines cut into the epochs of what they mean
abbrev pub cut : List (List Meaning) → List LineEntry → List (List LineTold)
cut [] entries = []
cut (made ∷ epochs) entries = lines_told made (take (length made) entries) ∷ cut epochs (drop (length made) entries)

-- all lines, one behind another
abbrev pub all_lines : List (List Meaning) → List Meaning
all_lines epochs = flat_map (λ (made : List Meaning). made) epochs

-- the epoch in which the line of this number stands, counted from 0, where the first line has the number 1
abbrev pub epoch_at : List (List Meaning) → ℕ → ℕ
epoch_at [] n = 0
epoch_at (made ∷ epochs) n = if nat_le n (length made) then 0 else epoch_at epochs (n - length made) + 1

-- An effect or a charging record belongs to the epoch of the last entry of a line before it, and to
-- the first epoch where
-- none stands before it.
abbrev pub epoch_behind : List (List Meaning) → ℕ → Entry → ℕ
epoch_behind epochs now (entry.Line of_line) = epoch_at epochs (line_of of_line)
epoch_behind epochs now (entry.Effect effect) = now
epoch_behind epochs now (entry.Charge charge) = now

abbrev pub effect_in : ℕ → ℕ → Entry → Option Effected
effect_in epoch now (entry.Line of_line) = None
effect_in epoch now (entry.Effect effect) = if now == epoch then Some effect else None
effect_in epoch now (entry.Charge charge) = None

abbrev pub row_in : ℕ → ℕ → Entry → Option ChargeEntry
row_in epoch now (entry.Line of_line) = None
row_in epoch now (entry.Effect effect) = None
row_in epoch now (entry.Charge (charge.R slot row)) = if now == epoch then Some (charge.R slot row) else None
row_in epoch now (entry.Charge (charge.O slot counters)) = None

-- what belongs to an epoch, behind entries after which another one goes on
abbrev pub told_in_epoch : {X : Type 0} → (ℕ → Entry → Option X) → List (List Meaning) → ℕ → List Entry → List X
told_in_epoch belongs epochs now [] = []
told_in_epoch belongs epochs now (first ∷ later) =
    filter_map (belongs now) (first ∷ []) ++ told_in_epoch belongs epochs (epoch_behind epochs now first) later

abbrev pub effects_told : List (List Meaning) → ℕ → List Entry → List Effected
effects_told epochs epoch entries = told_in_epoch (effect_in epoch) epochs 0 entries

abbrev pub rows_told : List (List Meaning) → ℕ → List Entry → List ChargeEntry
rows_told epochs epoch entries = told_in_epoch (row_in epoch) epochs 0 entries

-- the open counters
abbrev pub open_of : Entry → Option ChargeEntry
open_of (entry.Line of_line) = None
open_of (entry.Effect effect) = None
open_of (entry.Charge (charge.R slot row)) = None
open_of (entry.Charge (charge.O slot counters)) = Some (charge.O slot counters)

abbrev pub opens_told : List Entry → List ChargeEntry
opens_told entries = filter_map open_of entries

-- whose charge it is
abbrev pub slot_charged : ChargeEntry → ℕ
slot_charged (charge.R slot row) = slot
slot_charged (charge.O slot counters) = slot
