-- What `save` and `resume` write is one text.
use Rattle.std.specs.Prelude.{◌≡◌, ℕ, ◌<◌, ◌^◌, List, length}
use Rattle.trace_lines.specs.Input.{Input}
use Rattle.trace_lines.specs.Line.{Line}
use Rattle.lawful_run.specs.Report.{Report}
use Rattle.trace_run.specs.declared.status.Status.{Status}
use Rattle.record_codec.specs.Saved.{FileState, IsFile}
use Rattle.solo_command.specs.Reports.{IsResumed}
use Rattle.solo_command.specs.Law.{TellsAll}
use Rattle.save_command.specs.Saves.{IsSavedText}
use Rattle.report_laws.specs.Resuming.{ResumeRan}

-- Behind a state, whichever program wrote it, an input has one report.
abbrev pub OneResumedReport : Type 0
OneResumedReport = (slices : ℕ) (file : FileState) (input : Input) (one other : Report)
    → IsFile file → length input.lines < 2 ^ 50 → IsResumed slices file input one → IsResumed slices file input other
    → one ≡ other

-- So two runs of `resume` over the same octets that told all had one status and wrote one text.
abbrev pub OneResumedText : Type 0
OneResumedText = (octets one other : List ℕ) (ending other_ending : Status)
    → length octets < 2 ^ 40 → TellsAll ending → TellsAll other_ending
    → ResumeRan ending octets one → ResumeRan other_ending octets other → (ending ≡ other_ending) × (one ≡ other)

-- Lines leave one state, and it has one text.
abbrev pub OneSavedText : Type 0
OneSavedText = (lines : List Line) (one other : List ℕ)
    → length lines < 2 ^ 50 → IsSavedText lines one → IsSavedText lines other → one ≡ other
