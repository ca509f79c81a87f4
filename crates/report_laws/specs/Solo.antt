-- What `solo` wrote: the laws of neighbours and of parts, of its reports and their texts.
use Rattle.std.specs.Prelude.{◌≡◌, ℕ, ◌<◌, Bool, false, List, []}
use Rattle.trace_lines.specs.Input.{input_of}
use Rattle.lawful_run.specs.Report.{Report, report_text}
use Rattle.solo_command.specs.Report.{IsSoloReport, slices}
use Rattle.report_laws.specs.Lines.{AreAlike, EndAlike}
use Rattle.report_laws.specs.Parts.{IsCutInto, TellAll}
use Rattle.report_laws.specs.Told.{TellTheSame, report_of}

-- Of these octets one thread may give this report, and its text is this one: so each of `solo` is that reads them to
-- their stop (`IsText` of trace_run).
pub record SoloWrote (octets text : List ℕ) (report : Report) : Type 0 where
  pub allowed : IsSoloReport (input_of octets) report
  pub written : text ≡ report_text false report

abbrev pub SoloTellsTheSame : Type 0
SoloTellsTheSame = (own : ℕ → Bool) (octets others text also : List ℕ) (report other : Report)
    → SoloWrote octets text report → SoloWrote others also other
    → AreAlike own slices [] (input_of octets).lines (input_of others).lines
    → TellTheSame own report other

abbrev pub SoloInEachEpoch : Type 0
SoloInEachEpoch = (own : ℕ → Bool) (octets others text also : List ℕ) (report other : Report)
    → SoloWrote octets text report → SoloWrote others also other
    → AreAlike own slices [] (input_of octets).lines (input_of others).lines
    → EndAlike (input_of octets) (input_of others)
    → report_of own report ≡ report_of own other

-- A trace was run whole and in so many parts.
abbrev pub SoloPartsTellAll : Type 0
SoloPartsTellAll = (part_of : ℕ → ℕ) (count : ℕ) (parts : List ℕ) (octets text : List ℕ) (report : Report)
    (traces texts : ℕ → List ℕ) (reports : ℕ → Report)
    → SoloWrote octets text report
    → ((part : ℕ) → part < count → SoloWrote (traces part) (texts part) (reports part))
    → IsCutInto part_of count slices parts (input_of octets) (λ part. input_of (traces part))
    → TellAll part_of parts (input_of octets) report reports
