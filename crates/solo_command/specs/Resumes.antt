-- What a run of `resume` did, by its status.
use Rattle.std.specs.Prelude.{◌≡◌, ℕ, ◌⊎◌, false, List, [], Option, Some}
use Rattle.std.specs.Io.KnownBytes.{Appends}
use Rattle.pc_outside.specs.Faults.{Rises}
use Rattle.pc_outside.specs.WhereTold.{WhereTold}
use Rattle.trace_lines.specs.Input.{ended}
use Rattle.pc_outside.specs.Texts.{Text}
use Rattle.record_codec.specs.Saved.{FileState}
use Rattle.record_codec.specs.StateLines.{SaysState}
use Rattle.record_codec.specs.StateReading.{AreRead, IsBadState, IsBig, IsLong, IsUndecided}
use Rattle.trace_run.specs.declared.status.Status.{Status}
use Rattle.trace_run.specs.declared.status.Status.TheVariants as status
use Rattle.trace_run.specs.Beginnings.{Beginning, behind, input_from}
use Rattle.trace_run.specs.Report.{IsDone, IsFaultText, ReportsFrom}
use Rattle.solo_command.specs.Reports.{IsResumed}

-- octets begin with the lines of a state and the line `TRACE`; what is ahead of these is the trace
pub record HasState (octets : List ℕ) : Type 0 where
  pub file : FileState
  pub texts : List Text
  pub ahead : List ℕ
  pub room : ℕ
  pub read : AreRead octets ahead room texts
  pub says : SaysState texts file

-- where the trace begins
abbrev pub begins_at : FileState → ℕ → Beginning
begins_at file room = behind room file.lines file.moment

-- Why no state was found. Nothing was written then.
abbrev pub StoppedFirst : Status → (octets left : List ℕ) → Type 0
StoppedFirst status.Ok octets left = ⊥
StoppedFirst status.Usage octets left = ⊥
StoppedFirst status.ReadFault octets left = IsUndecided octets left
StoppedFirst status.WriteFault octets left = ⊥
StoppedFirst status.NoMemory octets left = Unit {0}
StoppedFirst status.BadLine octets left = ⊥
StoppedFirst status.LineLong octets left = IsLong octets
StoppedFirst status.TooLong octets left = IsBig octets
StoppedFirst status.Refuted octets left = ⊥
StoppedFirst status.BadCapture octets left = ⊥
StoppedFirst status.BadState octets left = IsBadState octets
StoppedFirst status.BadReport octets left = ⊥

-- A state was found, and what was written is the report of the trace behind it, as far as the status says.
pub record Resumed (ending : Status) (source_failed : Type 0) (octets left text : List ℕ) : Type 0 where
  pub state : HasState octets
  pub report : ReportsFrom (begins_at state.file state.room) (IsResumed 64 state.file) false ending source_failed
      state.ahead left text

abbrev pub ResumesAs : Status → Type 0 → (octets left text : List ℕ) → Type 0
ResumesAs ending source_failed octets left text =
    (StoppedFirst ending octets left × (text ≡ [])) ⊎ Resumed ending source_failed octets left text

-- octets were appended to what a sink tells, and they are those by what a source told
pub record Resumes (ending : Status) (source_failed : Type 0) (start left old new : Option (List ℕ)) : Type 0 where
  pub text : List ℕ
  pub written : Appends old new text
  pub said : WhereTold start left (λ octets rest. ResumesAs ending source_failed octets rest text)

-- Where nothing failed and the trace behind a state ends with its last line, memory alone can run out.
abbrev pub CompletesResume : Status → (start : Option (List ℕ)) → Type 0
CompletesResume ending start =
    (octets : List ℕ) → start ≡ Some octets → (found : HasState octets)
    → (input_from (begins_at found.file found.room) found.ahead).stop ≡ ended → IsDone ending

-- what was written is the report of the whole lines that were taken behind the line `TRACE`
pub record TellsTaken (octets left text : List ℕ) : Type 0 where
  pub state : HasState octets
  pub report : IsFaultText (begins_at state.file state.room) (IsResumed 64 state.file) false state.ahead left text

-- The status says exactly whether a state was found. What was written without one is nothing. Where the source failed,
-- nothing was written only if no line but those of a state was taken whole.
pub record StatesAreTold (ending : Status) (octets left text : List ℕ) : Type 0 where
  pub bad : ending ≡ status.BadState → IsBadState octets × (text ≡ [])
  pub bad_is_told : IsBadState octets
      → (ending ≡ status.BadState) ⊎ ((ending ≡ status.ReadFault) ⊎ (ending ≡ status.NoMemory))
  pub long_is_told : IsLong octets
      → (ending ≡ status.LineLong) ⊎ ((ending ≡ status.ReadFault) ⊎ (ending ≡ status.NoMemory))
  pub big_is_told : IsBig octets
      → (ending ≡ status.TooLong) ⊎ ((ending ≡ status.ReadFault) ⊎ (ending ≡ status.NoMemory))
  pub fault : ending ≡ status.ReadFault
      → (IsUndecided octets left × (text ≡ [])) ⊎ TellsTaken octets left text

abbrev pub StatesAreToldExactly : Type 0
StatesAreToldExactly = (ending : Status) (before after : ℕ) (octets left text : List ℕ)
    → ResumesAs ending (Rises before after) octets left text → StatesAreTold ending octets left text

-- An input has one state before its trace, or none.
abbrev pub StatesAreOne : Type 0
StatesAreOne = (octets : List ℕ) (one other : HasState octets)
    → (one.texts ≡ other.texts) × (one.file ≡ other.file)
