-- A report as its text is without places.
use Rattle.std.specs.Prelude.{◌≡◌, ℕ, false, List, map}
use Rattle.demux.specs.Trace.{Meaning}
use Rattle.report_lines.specs.Text.{line_without_place, shown}
use Rattle.lawful_run.specs.Report.{EpochReport, Report, entries_of}
use Rattle.lawful_run.specs.Run.{IsRun}
use Rattle.lawful_run.specs.Setup.{Setup, solo}

-- no packet tells its place, nor that it was parked
abbrev pub epoch_shown : EpochReport → EpochReport
epoch_shown told = record told { lines = map line_without_place told.lines }

abbrev pub report_shown : Report → Report
report_shown report = record report { epochs = map epoch_shown report.epochs }

-- its entries are those that the text without places shows
abbrev pub EntriesAreShown : Type 0
EntriesAreShown = (report : Report) → entries_of (report_shown report) ≡ map (shown false) (entries_of report)

-- a lawful run without its places is a lawful run
abbrev pub PlacesMayBeLeftOut : Type 0
PlacesMayBeLeftOut = (setup : Setup) (slots : ℕ) (made : List (List Meaning)) (report : Report)
    → IsRun setup slots made report → IsRun setup slots made (report_shown report)

-- what one thread may report, slices may report too, whatever room and lanes they have
abbrev pub OneThreadIsLawful : Type 0
OneThreadIsLawful = (setup : Setup) (slots : ℕ) (made : List (List Meaning)) (report : Report)
    → IsRun solo slots made report → IsRun setup slots made (report_shown report)
