-- To which epoch each entry of a report belongs.
use Rattle.std.specs.Prelude.{◌≡◌, ℕ, ◌+◌, ◌<◌, ◌≤◌, ◌^◌, ◌==◌, Bool, false, Option, Some, None, List, [], ◌∷◌}
use Rattle.std.specs.Prelude.{All, length, map, filter, find, take, drop, flat_map, replicate}
use Rattle.demux.specs.Trace.{Meaning}
use Rattle.report_lines.specs.Records.{Effected}
use Rattle.report_lines.specs.Text.{entry_text}
use Rattle.report_lines.specs.declared.entry.ChargeEntry.{ChargeEntry}
use Rattle.report_lines.specs.declared.entry.ChargeEntry.TheVariants as charge
use Rattle.report_lines.specs.declared.entry.Entry.{Entry}
use Rattle.report_lines.specs.declared.entry.Entry.TheVariants as entry
use Rattle.lawful_run.specs.Telling.{counted}
use Rattle.audit_core.specs.Entries.{all_lines, epoch_behind}
use Rattle.audit_core.specs.Packed.{KeepsFrom}
use Rattle.audit_core.specs.AnswerPlaces.{is_outside}
use Rattle.audit_core.specs.Heard.{SaysReport}
use Rattle.audit_core.specs.Said.{AreEntries}
use Rattle.pc_outside.specs.Texts.{Text}
use Rattle.audit_core.specs.declared.report.Report.{Report}
use Rattle.audit_core.specs.declared.report.Run.{Run}
use Rattle.audit_core.specs.declared.report.Stood.{Stood}
use Rattle.audit_core.specs.declared.sharing.Keyed.{Keyed}

-- an effect, a charging record
abbrev pub effect_of : Entry → Option Effected
effect_of (entry.Line of_line) = None
effect_of (entry.Effect effect) = Some effect
effect_of (entry.Charge charge) = None

abbrev pub row_of : Entry → Option ChargeEntry
row_of (entry.Line of_line) = None
row_of (entry.Effect effect) = None
row_of (entry.Charge (charge.R slot row)) = Some (charge.R slot row)
row_of (entry.Charge (charge.O slot counters)) = None

-- The epoch of the next entry, where this one goes on: open counters stand behind all epochs.
abbrev pub own_epoch : List (List Meaning) → ℕ → Entry → ℕ
own_epoch made now (entry.Line of_line) = epoch_behind made now (entry.Line of_line)
own_epoch made now (entry.Effect effect) = now
own_epoch made now (entry.Charge (charge.R slot row)) = now
own_epoch made now (entry.Charge (charge.O slot counters)) = length made

-- an entry, how many stand before it, and its epoch
pub record Placed : Type 0 where
  pub place : ℕ
  pub epoch : ℕ
  pub entry : Entry

abbrev pub placed_from : List (List Meaning) → (place now : ℕ) → List Entry → List Placed
placed_from made place now [] = []
placed_from made place now (first ∷ later) =
    record { place = place; epoch = own_epoch made now first; entry = first }
    ∷ placed_from made (place + 1) (epoch_behind made now first) later

-- the entries that belong to an epoch, in the order of the report
abbrev pub placed_in : List (List Meaning) → ℕ → List Entry → List Placed
placed_in made epoch entries = filter (λ (p : Placed). p.epoch == epoch) (placed_from made 0 0 entries)

-- these were read: their entries, each with its place
pub record AreThose (stood : List Stood) (placed : List Placed) : Type 0 where
  pub entries : map (λ (s : Stood). s.entry) stood ≡ map (λ (p : Placed). p.entry) placed
  pub places : map (λ (s : Stood). s.place) stood ≡ map (λ (p : Placed). p.place) placed

-- What is kept of entries: their texts one behind another, and runs of those that follow one another in an epoch.
-- A run tells how many stand before it, and where its texts do.
pub record IsRunOf (octets : List ℕ) (entries : List Entry) (run : Run) : Type 0 where
  pub within : run.first + run.count ≤ length entries
  pub texts : KeepsFrom octets run.from (map entry_text (drop run.first entries))

-- runs behind one another, from a place on; the epoch of each of their entries
abbrev pub AreRunsFrom : ℕ → List (Keyed Run) → Type 0
AreRunsFrom place [] = Unit {0}
AreRunsFrom place (run ∷ runs) = (run.item.first ≡ place) × AreRunsFrom (place + run.item.count) runs

abbrev pub epochs_of : List (Keyed Run) → List ℕ
epochs_of runs = flat_map (λ (run : Keyed Run). replicate run.item.count run.key) runs

-- the entries of a run, and how many stand before each
abbrev pub slice_of : List Entry → Run → List Entry
slice_of entries run = take run.count (drop run.first entries)

abbrev pub places_of : Run → List ℕ
places_of run = counted run.first run.count

-- the epoch that goes on behind entries
abbrev pub epoch_from : List (List Meaning) → ℕ → List Entry → ℕ
epoch_from made now [] = now
epoch_from made now (first ∷ later) = epoch_from made (epoch_behind made now first) later

-- the first entry of a line that there isn't
abbrev pub is_outside_entry : ℕ → Entry → Bool
is_outside_entry count (entry.Line of_line) = is_outside count of_line
is_outside_entry count (entry.Effect effect) = false
is_outside_entry count (entry.Charge charge) = false

abbrev pub HasOutside : List ℕ → ℕ → List Entry → Option ℕ → Type 0
HasOutside octets count entries None = find (is_outside_entry count) entries ≡ None
HasOutside octets count entries (Some at) =
    (now : Entry) × (later : List (List ℕ)) × (find (is_outside_entry count) entries ≡ Some now)
    × KeepsFrom octets at (entry_text now ∷ later)

-- these lines of a report were taken, of a trace whose lines mean this, epoch by epoch
pub record HasTaken (made : List (List Meaning)) (texts : List Text) (report : Report) : Type 0 where
  pub entries : List Entry
  pub says : SaysReport report.none texts entries
  pub count : report.count ≡ length entries
  pub kept : KeepsFrom report.texts 0 (map entry_text entries)
  pub follow : AreRunsFrom 0 report.runs.items
  pub epochs : epochs_of report.runs.items ≡ map (λ (p : Placed). p.epoch) (placed_from made 0 0 entries)
  pub each : All (λ (run : Keyed Run). IsRunOf report.texts entries run.item) report.runs.items
  pub goes_on : report.epoch ≡ epoch_from made 0 entries
  pub outside : HasOutside report.texts (length (all_lines made)) entries report.outside
  pub few : length entries < 2 ^ 40

-- all lines of a report were taken, and are those of these entries
pub record IsHeld (made : List (List Meaning)) (entries : List Entry) (report : Report) : Type 0 where
  pub texts : List Text
  pub taken : HasTaken made texts report
  pub are : AreEntries texts entries
  pub all : report.none ≡ false

-- epochs end behind so many lines
abbrev pub ends_from : ℕ → List (List Meaning) → List ℕ
ends_from before [] = []
ends_from before (lines ∷ epochs) = (before + length lines) ∷ ends_from (before + length lines) epochs
