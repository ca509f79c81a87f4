-- What the program's `resume` writes behind what its `save` wrote of a trace's first part.
use Rattle.std.specs.Prelude.{◌≡◌, ℕ, ◌+◌, ◌<◌, ◌^◌, false, List, ◌++◌, length}
use Rattle.pc_outside.specs.Faults.{Rises}
use Rattle.trace_lines.specs.Input.{input_of}
use Rattle.lawful_run.specs.Report.{Report}
use Rattle.trace_run.specs.Entries.{charges_text, epochs_text}
use Rattle.trace_run.specs.Report.{Reports}
use Rattle.trace_run.specs.declared.status.Status.{Status}
use Rattle.trace_run.specs.declared.status.Status.TheVariants as status
use Rattle.solo_command.specs.Gateway.{no_subscribers}
use Rattle.solo_command.specs.Reports.{Gives}
use Rattle.solo_command.specs.Law.{EndWithFence, TellsAll}
use Rattle.solo_command.specs.Resumes.{ResumesAs}
use Rattle.solo_command.specs.Report.{IsSoloReport}
use Rattle.save_command.specs.Saves.{SavesAs}

-- a run of `solo`, of `save` or of `resume` over octets had this status and wrote this text
pub record SoloRan (ending : Status) (octets text : List ℕ) : Type 0 where
  pub left : List ℕ
  pub faults : ℕ
  pub later : ℕ
  pub reports : Reports IsSoloReport false ending (Rises faults later) octets left text

pub record SaveRan (ending : Status) (octets text : List ℕ) : Type 0 where
  pub left : List ℕ
  pub saves : SavesAs ending octets left text

pub record ResumeRan (ending : Status) (octets text : List ℕ) : Type 0 where
  pub left : List ℕ
  pub faults : ℕ
  pub later : ℕ
  pub resumes : ResumesAs ending (Rises faults later) octets left text

-- A trace was cut behind a FENCE. `solo` and `save` read the first part to its end, with status 0; `solo` told all of
-- both parts; and `resume` all of the second, behind what `save` wrote. No input has 2^40 octets.
pub record AreRunsOfParts (octets behind saved first whole resumed : List ℕ) (ending resumed_ending : Status) :
    Type 0 where
  pub fenced : EndWithFence octets
  pub short : length octets + length behind < 2 ^ 40
  pub saved_short : length saved + length behind < 2 ^ 40
  pub first_run : SoloRan status.Ok octets first
  pub save_run : SaveRan status.Ok octets saved
  pub tells : TellsAll ending
  pub whole_run : SoloRan ending (octets ++ behind) whole
  pub resumed_tells : TellsAll resumed_ending
  pub resumed_run : ResumeRan resumed_ending (saved ++ behind) resumed

-- Both have one status. What `solo` wrote of the first part is the text of epochs and the open counters behind them;
-- what it wrote of both is that of these epochs, then what `resume` wrote.
pub record HasGoneOn (octets first whole resumed : List ℕ) (ending resumed_ending : Status) : Type 0 where
  pub report : Report
  pub has : Gives 64 no_subscribers (input_of octets) report
  pub first_is : first ≡ epochs_text false report.epochs ++ charges_text false report.opens
  pub whole_is : whole ≡ epochs_text false report.epochs ++ resumed
  pub one_status : ending ≡ resumed_ending

abbrev pub CutRunsGoOn : Type 0
CutRunsGoOn = (octets behind saved first whole resumed : List ℕ) (ending resumed_ending : Status)
    → AreRunsOfParts octets behind saved first whole resumed ending resumed_ending
    → HasGoneOn octets first whole resumed ending resumed_ending
