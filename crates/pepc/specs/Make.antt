-- What a made trace, or its summary, leaves.
use Rattle.std.specs.Prelude.{◌≡◌, ℕ, ◌<◌, Bool, true, false, List, [], ◌++◌, length, Option}
use Rattle.std.specs.Io.KnownBytes.{Appends}
use Rattle.report_lines.specs.Counts.{Counts, all_held, counts_of}
use Rattle.report_lines.specs.Summary.{summary_text}
use Rattle.trace_lines.specs.Input.{input_of}
use Rattle.trace_lines.specs.Line.{Line}
use Rattle.trace_maker.specs.Generated.{made, text_of}
use Rattle.trace_run.specs.declared.status.Status.{Status}
use Rattle.trace_run.specs.declared.status.Status.TheVariants as status
use Rattle.solo_command.specs.Report.{IsSoloReport}
use Rattle.trace_run.specs.Report.{IsText}

-- the counts are those of the report that one thread gives of these lines
pub record IsCounted (lines : List Line) (counts : Counts) : Type 0 where
  pub report : List ℕ
  pub of_trace : IsText IsSoloReport false (input_of (text_of lines)) report
  pub counted : counts ≡ all_held (counts_of report)

-- the text tells how many lines there are, and these counts
pub record IsSummary (lines : List Line) (text : List ℕ) : Type 0 where
  pub counts : Counts
  pub right : IsCounted lines counts
  pub told : text ≡ summary_text (length lines) counts

-- the text of the lines, or of their summary
abbrev pub IsMakeText : Bool → List Line → List ℕ → Type 0
IsMakeText false lines text = text ≡ text_of lines
IsMakeText true lines text = IsSummary lines text

-- the text of some first lines; of a summary nothing
pub record IsFirstLines (lines : List Line) (text : List ℕ) : Type 0 where
  pub prefix : List Line
  pub rest : List Line
  pub parts : lines ≡ prefix ++ rest
  pub written : text ≡ text_of prefix

abbrev pub IsMakePrefix : Bool → List Line → List ℕ → Type 0
IsMakePrefix false lines text = IsFirstLines lines text
IsMakePrefix true lines text = text ≡ []

-- a prefix of the text, and not all
pub record IsMakeCut (summary : Bool) (lines : List Line) (text : List ℕ) : Type 0 where
  pub more : List ℕ
  pub some_left : 0 < length more
  pub whole : IsMakeText summary lines (text ++ more)

-- what stands written at a status
abbrev pub Made : Status → Bool → List Line → List ℕ → Type 0
Made status.Ok summary lines text = IsMakeText summary lines text
Made status.Usage summary lines text = ⊥
Made status.ReadFault summary lines text = ⊥
Made status.WriteFault summary lines text = IsMakeCut summary lines text
Made status.NoMemory summary lines text = IsMakePrefix summary lines text
Made status.BadLine summary lines text = ⊥
Made status.LineLong summary lines text = ⊥
Made status.TooLong summary lines text = ⊥
Made status.Refuted summary lines text = ⊥
Made status.BadCapture summary lines text = ⊥
Made status.BadState summary lines text = ⊥
Made status.BadReport summary lines text = ⊥

-- a run of `make` that ended with this status: the sink before and after
pub record Makes (seed subs lines : ℕ) (summary : Bool) (ending : Status) (old new : Option (List ℕ)) : Type 0 where
  pub text : List ℕ
  pub written : Appends old new text
  pub is : Made ending summary (made seed subs lines) text
