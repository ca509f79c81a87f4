-- The sequential gateway: one thread answers each line before the next.
use Rattle.std.specs.Prelude.{◌≡◌, false, Some, List, [], ◌∷◌}
use Rattle.pc_base.specs.declared.packet.Place.TheVariants.{Closing}
use Rattle.demux.specs.Trace.{Meaning}
use Rattle.report_lines.specs.Records.{PacketTold}
use Rattle.report_lines.specs.declared.entry.LineEntry.{LineEntry}
use Rattle.report_lines.specs.declared.entry.LineEntry.TheVariants as line
use Rattle.lawful_run.specs.Bounds.{count_in_sequence}
use Rattle.lawful_run.specs.LinesTold.{LineTold, EachLine}
use Rattle.lawful_run.specs.Merging.{Histories, behind}
use Rattle.lawful_run.specs.Report.{EpochReport, Report}
use Rattle.lawful_run.specs.Run.{told_in, no_events}

-- a packet behind these lines of its epoch
pub record IsJudgedInSequence (histories : Histories) (before : List LineTold) (judged : PacketTold) : Type 0 where
  -- it meets each command of its slot that was accepted before it, and no other
  pub commands : judged.commands ≡ count_in_sequence histories judged.slot before
  -- it is handled on no slice
  pub place : judged.place ≡ Some Closing
  -- it never waits
  pub parked : judged.parked ≡ false

-- no line is refused, and each packet is judged before the next line
abbrev pub EntryInSequence : Histories → List LineTold → LineEntry → Type 0
EntryInSequence histories before (line.N noted) = Unit {0}
EntryInSequence histories before (line.C answered) = Unit {0}
EntryInSequence histories before (line.P judged) = IsJudgedInSequence histories before judged
EntryInSequence histories before (line.F refused) = ⊥

abbrev pub LineInSequence : Histories → List LineTold → LineTold → List LineTold → Type 0
LineInSequence histories before now later = EntryInSequence histories before now.entry

-- so in each line of each epoch
abbrev pub EpochsInSequence : Histories → List (List Meaning) → List EpochReport → Type 0
EpochsInSequence histories [] others = Unit {0}
EpochsInSequence histories (made ∷ epochs) [] = Unit {0}
EpochsInSequence histories (made ∷ epochs) (told ∷ others) =
    EachLine (LineInSequence histories) (told_in made told)
    × EpochsInSequence (behind histories (told_in made told)) epochs others

abbrev pub AnswersInSequence : List (List Meaning) → Report → Type 0
AnswersInSequence made report = EpochsInSequence no_events made report.epochs
