-- What a report tells of packets that wait for their eNodeB.
use Rattle.std.specs.Prelude.{◌≡◌, ℕ, ◌<◌, ◌≤◌, ◌==◌, ◌&&◌, Bool, true, List, All, Contains, count_by, flat_map}
use Rattle.demux.specs.Trace.{Meaning}
use Rattle.gate_model.specs.Holding.{is_fate_of, is_held}
use Rattle.pc_base.specs.declared.effect.Effect.{Effect}
use Rattle.pc_base.specs.declared.effect.Effect.TheVariants as effect
use Rattle.report_lines.specs.Records.{Effected, PacketTold}
use Rattle.report_lines.specs.declared.entry.LineEntry.{LineEntry}
use Rattle.report_lines.specs.declared.entry.LineEntry.TheVariants as line
use Rattle.lawful_run.specs.Report.{EpochReport, Report}
use Rattle.lawful_run.specs.Run.{IsRun}
use Rattle.lawful_run.specs.Setup.{Setup}

-- the entries of all lines, and those of all effects
abbrev pub lines_in : Report → List LineEntry
lines_in report = flat_map (λ (told : EpochReport). told.lines) report.epochs

abbrev pub effects_in : Report → List Effected
effects_in report = flat_map (λ (told : EpochReport). told.effects) report.epochs

-- whether an entry tells the fate (H) of a slot's packet of this number, and how many do
abbrev pub tells_fate : ℕ → ℕ → Effected → Bool
tells_fate slot number told = told.slot == slot && is_fate_of number told.effect

abbrev pub fates_told : ℕ → ℕ → Report → ℕ
fates_told slot number report = count_by (tells_fate slot number) (effects_in report)

-- no packet has two fates
abbrev pub AtMostOneFate : Type 0
AtMostOneFate = (setup : Setup) (slots : ℕ) (made : List (List Meaning)) (report : Report) (slot number : ℕ)
    → IsRun setup slots made report → slot < slots → fates_told slot number report ≤ 1

-- A packet of this number was held, and the command of that number stands behind it.
pub record WasHeld (lines : List LineEntry) (slot number command : ℕ) : Type 0 where
  pub judged : PacketTold
  pub stands : Contains lines (line.P judged)
  pub of_slot : judged.slot ≡ slot
  pub of_packet : judged.number ≡ number
  pub held : is_held judged.verdict ≡ true
  pub before : judged.commands ≤ command

abbrev pub FateOfHeld : List LineEntry → ℕ → ℕ → Effect → Type 0
FateOfHeld lines slot command (effect.Marker life peer octets) = Unit {0}
FateOfHeld lines slot command (effect.Fate packet fate) = WasHeld lines slot packet command

abbrev pub IsOfHeld : List LineEntry → Effected → Type 0
IsOfHeld lines told = FateOfHeld lines told.slot told.command told.effect

-- each fate is that of a packet that an entry tells as held, and of a later command
abbrev pub FatesFollow : Type 0
FatesFollow = (setup : Setup) (slots : ℕ) (made : List (List Meaning)) (report : Report)
    → IsRun setup slots made report → All (IsOfHeld (lines_in report)) (effects_in report)
