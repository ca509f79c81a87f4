-- A trace that is cut behind a FENCE, saved and resumed, has the report of the whole.
use Rattle.std.specs.Prelude.{◌≡◌, ℕ, ◌<◌, ◌^◌, ◌+◌, ◌-◌, false, List, [], ◌∷◌, ◌++◌, length, flat_map, All}
use Rattle.trace_lines.specs.Input.{Stop, ended, input_of, input_within}
use Rattle.trace_lines.specs.Line.{Line}
use Rattle.trace_lines.specs.Kind.{Fence}
use Rattle.pc_outside.specs.Faults.{Rises}
use Rattle.pc_outside.specs.Limits.{newline}
use Rattle.lawful_run.specs.Cut.{IsCut}
use Rattle.lawful_run.specs.Report.{Report, epoch_entries, texts_of}
use Rattle.trace_run.specs.declared.status.Status.{Status}
use Rattle.trace_run.specs.declared.status.Status.TheVariants as status
use Rattle.trace_run.specs.Report.{IsText, Reports, input_with}
use Rattle.record_codec.specs.Saved.{FileState}
use Rattle.record_codec.specs.Spelling.{state}
use Rattle.record_codec.specs.StateText.{IsStateText}
use Rattle.solo_command.specs.Gateway.{no_subscribers}
use Rattle.solo_command.specs.Left.{IsLeft}
use Rattle.solo_command.specs.Reports.{Gives, IsResumed}
use Rattle.solo_command.specs.Resumes.{ResumesAs}

-- Where the first lines are whole epochs, the report of both parts has the epochs of the first, then those that are
-- given behind its state; and the open counters are those behind the second.
abbrev pub ResumedReportsGoOn : Type 0
ResumedReportsGoOn = (slices : ℕ) (before behind : List Line) (closed : List (List Line)) (stop : Stop)
    (file : FileState) (whole first resumed : Report)
    → IsCut before closed [] → length before + length behind < 2 ^ 50 → IsLeft slices before file
    → Gives slices no_subscribers (record { lines = before ++ behind; stop = stop }) whole
    → Gives slices no_subscribers (input_with before) first
    → IsResumed slices file (record { lines = behind; stop = stop }) resumed
    → (whole.epochs ≡ first.epochs ++ resumed.epochs) × (whole.opens ≡ resumed.opens)

-- octets whose last line is a FENCE, with its newline
pub record EndWithFence (octets : List ℕ) : Type 0 where
  pub stop : (input_of octets).stop ≡ ended
  pub prefix : List ℕ
  pub parts : octets ≡ prefix ++ newline ∷ []
  pub earlier : List Line
  pub last : Line
  pub lines : (input_of octets).lines ≡ earlier ++ last ∷ []
  pub fence : last.kind ≡ Fence

-- The same of octets: what both parts have, and what the saved first part has with the second, is read whole.
abbrev pub ResumedTextsGoOn : Type 0
ResumedTextsGoOn = (octets behind text : List ℕ) (file : FileState) (first : Report) (whole resumed : List ℕ)
    → EndWithFence octets → length octets + length behind < 2 ^ 40 → length text + length behind < 2 ^ 40
    → IsLeft 64 (input_of octets).lines file → IsStateText (state file) text
    → Gives 64 no_subscribers (input_of octets) first
    → IsText (Gives 64 no_subscribers) false (input_of (octets ++ behind)) whole
    → IsText (IsResumed 64 file) false
    (input_within (2 ^ 40 - length text) (file.lines + 1) file.moment behind) resumed
    → whole ≡ texts_of false (flat_map epoch_entries first.epochs) ++ resumed

-- the statuses with which a report is told to its end, or to where its input stops
abbrev pub TellsAll : Status → Type 0
TellsAll status.Ok = Unit {0}
TellsAll status.Usage = ⊥
TellsAll status.ReadFault = ⊥
TellsAll status.WriteFault = ⊥
TellsAll status.NoMemory = ⊥
TellsAll status.BadLine = Unit {0}
TellsAll status.LineLong = Unit {0}
TellsAll status.TooLong = Unit {0}
TellsAll status.Refuted = ⊥
TellsAll status.BadCapture = ⊥
TellsAll status.BadState = ⊥
TellsAll status.BadReport = ⊥

-- The same of runs: of one that answers both parts from no subscribers, and one of `resume`, which reads the saved
-- state of the first part and the second behind it. Both told all, and so with one status.
abbrev pub ResumedRunsGoOn : Type 0
ResumedRunsGoOn = (octets behind saved : List ℕ) (file : FileState) (first : Report)
    (ending resumed_ending : Status) (faults more_faults faults_too more_faults_too : ℕ)
    (whole left resumed resumed_left : List ℕ) → EndWithFence octets
    → length octets + length behind < 2 ^ 40 → length saved + length behind < 2 ^ 40
    → IsLeft 64 (input_of octets).lines file → All (λ octet. octet < 256) (state file) → IsStateText (state file) saved
    → Gives 64 no_subscribers (input_of octets) first → TellsAll ending
    → Reports (Gives 64 no_subscribers) false ending (Rises faults more_faults) (octets ++ behind) left whole
    → TellsAll resumed_ending
    → ResumesAs resumed_ending (Rises faults_too more_faults_too) (saved ++ behind) resumed_left resumed
    → (ending ≡ resumed_ending) × (whole ≡ texts_of false (flat_map epoch_entries first.epochs) ++ resumed)
