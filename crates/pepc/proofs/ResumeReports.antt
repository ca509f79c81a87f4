-- What a run of `resume` wrote, by its status.
use Rattle.std.proofs.Common.{◌≡◌, ℕ, ◌≤◌, ◌++◌, ◌⊎◌, arith, inl, inr, Bool, false, List, [], Option, None, Some, refl, subst}
use Rattle.std.proofs.KnownBytes.{Appends-nil}
use Rattle.pc_outside.specs.Faults.{Rises}
use Rattle.pc_outside.specs.WhereTold.{WhereTold}
use Rattle.pc_outside.proofs.ToldLemmas.{told_map, told_then}
use Rattle.trace_lines.specs.Input.{Input, ended}
use Rattle.lawful_run.specs.Report.{Report}
use Rattle.record_codec.specs.Saved.{FileState}
use Rattle.record_codec.specs.StateLaws.{LinesSayOneState}
use Rattle.record_codec.specs.StateReading.{HasFound, IsBadState}
use Rattle.pc_outside.specs.Texts as texts
use Rattle.trace_run.specs.declared.status.Status.{Status}
use Rattle.trace_run.specs.declared.status.Status.TheVariants as status
use Rattle.trace_run.specs.Beginnings.{Beginning, behind, input_from}
use Rattle.trace_run.specs.Report.{IsDone, IsEpochsText, IsFaultText, IsText, ReportsFrom, RunsFrom}
use Rattle.trace_run.proofs.EndingLemmas.{complete}
use Rattle.solo_command.specs.Reports.{IsResumed}
use Rattle.solo_command.specs.Resumes.{CompletesResume, HasState, Resumes, ResumesAs, StoppedFirst, begins_at}
use Rattle.pepc.proofs.OneTrace.{ends_alike}
use Rattle.solo_command.proofs.StateLemmas.{none_stopped, told_exactly}

-- ---- reports that are allowed by one relation are allowed by a wider one, and a failure is one of more calls

module _ (may more : Input → Report → Type 0) (wider : (input : Input) (report : Report) → may input report
    → more input report) (places : Bool) where
  text_wider : (input : Input) (text : List ℕ) → IsText may places input text → IsText more places input text
  text_wider input text is = record {
    report = is.report;
    allowed = wider input is.report is.allowed;
    written = is.written;
  }

  epochs_wider : (input : Input) (text : List ℕ) → IsEpochsText may places input text
      → IsEpochsText more places input text
  epochs_wider input text is = record {
    first = is.first;
    rest = is.rest;
    parts = is.parts;
    whole = is.whole;
    report = is.report;
    allowed = wider _ is.report is.allowed;
    written = is.written;
  }

  fault_wider : (begin : Beginning) (octets left text : List ℕ) → IsFaultText begin may places octets left text
      → IsFaultText begin more places octets left text
  fault_wider begin octets left text is = record {
    taken = is.taken;
    stop = is.stop;
    report = text_wider _ text is.report;
  }

  cut_wider : (begin : Beginning) (failed after : Type 0) (octets left text : List ℕ) → (failed → after)
      → IsText may places (input_from begin octets) text
      ⊎ ((failed × IsFaultText begin may places octets left text)
      ⊎ IsEpochsText may places (input_from begin octets) text)
      → IsText more places (input_from begin octets) text
      ⊎ ((after × IsFaultText begin more places octets left text)
      ⊎ IsEpochsText more places (input_from begin octets) text)
  cut_wider begin failed after octets left text fails (inl whole) = inl (text_wider _ text whole)
  cut_wider begin failed after octets left text fails (inr (inl faulty)) =
      inr (inl (fails faulty.0, fault_wider begin octets left text faulty.1))
  cut_wider begin failed after octets left text fails (inr (inr first)) = inr (inr (epochs_wider _ text first))

  pub reports_wider : (begin : Beginning) (ending : Status) (failed after : Type 0) (octets left text : List ℕ)
      → (failed → after) → ReportsFrom begin may places ending failed octets left text
      → ReportsFrom begin more places ending after octets left text
  reports_wider begin status.Ok failed after octets left text fails is = (is.0, is.1, text_wider _ text is.2)
  reports_wider begin status.Usage failed after octets left text fails is = is
  reports_wider begin status.ReadFault failed after octets left text fails is = fault_wider begin octets left text is
  reports_wider begin status.WriteFault failed after octets left text fails is =
      record { more = is.more; whole = cut_wider begin failed after octets left (text ++ is.more) fails is.whole }
  reports_wider begin status.NoMemory failed after octets left text fails is = epochs_wider _ text is
  reports_wider begin status.BadLine failed after octets left text fails is = (is.0, text_wider _ text is.1)
  reports_wider begin status.LineLong failed after octets left text fails is = (is.0, text_wider _ text is.1)
  reports_wider begin status.TooLong failed after octets left text fails is = (is.0, text_wider _ text is.1)
  reports_wider begin status.Refuted failed after octets left text fails is = is
  reports_wider begin status.BadCapture failed after octets left text fails is = is
  reports_wider begin status.BadState failed after octets left text fails is = is
  reports_wider begin status.BadReport failed after octets left text fails is = is

  pub runs_wider : (begin : Beginning) (ending : Status) (failed : Type 0) (start left old new : Option (List ℕ))
      → RunsFrom begin may places ending failed start left old new
      → RunsFrom begin more places ending failed start left old new
  runs_wider begin ending failed start left old new runs = record {
    text = runs.text;
    written = runs.written;
    report = told_map start left (λ octets rest. ReportsFrom begin may places ending failed octets rest runs.text)
        (λ octets rest. ReportsFrom begin more places ending failed octets rest runs.text)
        (λ octets rest is. reports_wider begin ending failed failed octets rest runs.text (λ f. f) is) runs.report;
  }

-- ---- a run of `resume`

-- a count that rose in a later call rose from before
pub rises_later : (before mid now : ℕ) → before ≤ mid → Rises mid now → Rises before now
rises_later before mid now later (inl rose) = inl (omega (arith, later, rose))
rises_later before mid now later (inr full) = inr full

-- behind the lines and the moment of a file
pub runs_behind : (may : Input → Report → Type 0) (places : Bool) (file : FileState) (room lines moment : ℕ)
    (ending : Status) (failed : Type 0) (start left old new : Option (List ℕ)) → lines ≡ file.lines
    → moment ≡ file.moment → RunsFrom (behind room lines moment) may places ending failed start left old new
    → RunsFrom (begins_at file room) may places ending failed start left old new
runs_behind may places file room lines moment ending failed start left old new lines_are moment_is runs =
    subst (λ n. RunsFrom (behind room n file.moment) may places ending failed start left old new) lines_are
    (subst (λ m. RunsFrom (behind room lines m) may places ending failed start left old new) moment_is runs)

-- memory ran out before anything was read
pub nothing_resumed : (failed : Type 0) (start sink : Option (List ℕ))
    → Resumes status.NoMemory failed start start sink sink
nothing_resumed failed start sink = record { text = []; written = Appends-nil sink; said = told start }
  where
    told : (start : Option (List ℕ)) → WhereTold start start
        (λ octets rest. ResumesAs status.NoMemory failed octets rest [])
    told None = tt
    told (Some octets) = inl (tt, refl)

-- no state was found
pub stops_first : (ending : Status) (failed : Type 0) (start left sink : Option (List ℕ))
    → WhereTold start left (StoppedFirst ending) → Resumes ending failed start left sink sink
stops_first ending failed start left sink stopped = record {
  text = [];
  written = Appends-nil sink;
  said = told_map start left (StoppedFirst ending) (λ octets rest. ResumesAs ending failed octets rest [])
      (λ octets rest is. inl (is, refl)) stopped;
}

-- a state was found, and the trace behind it was answered
pub resumes_behind : (file : FileState) (room : ℕ) (ending : Status) (failed after : Type 0)
    (start ahead left old new : Option (List ℕ)) → (failed → after)
    → WhereTold start ahead (λ octets rest. HasFound file octets rest room)
    → RunsFrom (begins_at file room) (IsResumed 64 file) false ending failed ahead left old new
    → Resumes ending after start left old new
resumes_behind file room ending failed after start ahead left old new fails found runs = record {
  text = runs.text;
  written = runs.written;
  said = told_then start ahead left (λ octets rest. HasFound file octets rest room)
      (λ octets rest. ReportsFrom (begins_at file room) (IsResumed 64 file) false ending failed octets rest runs.text)
      (λ octets rest. ResumesAs ending after octets rest runs.text)
      (λ octets next rest has reports. inr (record {
        state = record {
          file = file;
          texts = has.0;
          ahead = next;
          room = room;
          read = has.1;
          says = has.2;
        };
        report = reports_wider (IsResumed 64 file) (IsResumed 64 file) (λ input report is. is) false (begins_at file room)
            ending failed after next rest runs.text fails reports;
      })) found runs.report;
}

-- ---- where nothing failed and the trace behind the state ends, memory alone can run out

-- a state was found, so that the input begins with none can't be told
none_bad : (octets : List ℕ) → HasState octets → IsBadState octets → ⊥
none_bad octets found bad =
    clash ((told_exactly status.Usage 0 0 octets [] [] (inr (record { state = found; report = refl }))).bad_is_told bad)
  where
    clash : (status.Usage ≡ status.BadState)
        ⊎ ((status.Usage ≡ status.ReadFault) ⊎ (status.Usage ≡ status.NoMemory)) → ⊥
    clash (inl same) = cc
    clash (inr (inl same)) = cc
    clash (inr (inr same)) = cc

stopped_done : (ending : Status) (source_failed : Type 0) (octets left : List ℕ) → HasState octets
    → (source_failed → ⊥) → (ending ≡ status.ReadFault → source_failed) → StoppedFirst ending octets left
    → IsDone ending
stopped_done status.Ok source_failed octets left found no_source read stopped = absurd stopped
stopped_done status.Usage source_failed octets left found no_source read stopped = absurd stopped
stopped_done status.ReadFault source_failed octets left found no_source read stopped = absurd (no_source (read refl))
stopped_done status.WriteFault source_failed octets left found no_source read stopped = absurd stopped
stopped_done status.NoMemory source_failed octets left found no_source read stopped = inr refl
stopped_done status.BadLine source_failed octets left found no_source read stopped = absurd stopped
stopped_done status.LineLong source_failed octets left found no_source read stopped =
    absurd (none_stopped octets texts.long found stopped)
stopped_done status.TooLong source_failed octets left found no_source read stopped =
    absurd (none_stopped octets texts.big found stopped)
stopped_done status.Refuted source_failed octets left found no_source read stopped = absurd stopped
stopped_done status.BadCapture source_failed octets left found no_source read stopped = absurd stopped
stopped_done status.BadState source_failed octets left found no_source read stopped =
    absurd (none_bad octets found stopped)
stopped_done status.BadReport source_failed octets left found no_source read stopped = absurd stopped

pub resume_complete : LinesSayOneState → (ending : Status) (source_failed sink_failed : Type 0)
    (start left old new : Option (List ℕ)) → (source_failed → ⊥) → (sink_failed → ⊥)
    → (ending ≡ status.ReadFault → source_failed) → (ending ≡ status.WriteFault → sink_failed)
    → (ending ≡ status.Usage → ⊥) → Resumes ending source_failed start left old new → CompletesResume ending start
resume_complete one_state ending source_failed sink_failed start left old new no_source no_sink read write usage runs =
    λ octets is found stop.
    by_left octets found stop left
    (subst (λ s. WhereTold s left (λ o l. ResumesAs ending source_failed o l runs.text)) is runs.said)
  where
    by_case : (octets : List ℕ) (found : HasState octets)
        → (input_from (begins_at found.file found.room) found.ahead).stop ≡ ended → (l : List ℕ)
        → ResumesAs ending source_failed octets l runs.text → IsDone ending
    by_case octets found stop l (inl stopped) =
        stopped_done ending source_failed octets l found no_source read stopped.0
    by_case octets found stop l (inr resumed) =
        let state = resumed.state in
        complete (begins_at state.file state.room) (IsResumed 64 state.file) false ending source_failed sink_failed
        state.ahead (Some state.ahead) (Some l) old new refl (ends_alike one_state octets found state stop) no_source
        no_sink read write usage
        (record { text = runs.text; written = runs.written; report = resumed.report })

    by_left : (octets : List ℕ) (found : HasState octets)
        → (input_from (begins_at found.file found.room) found.ahead).stop ≡ ended → (l : Option (List ℕ))
        → WhereTold (Some octets) l (λ o rest. ResumesAs ending source_failed o rest runs.text) → IsDone ending
    by_left octets found stop None told = absurd told
    by_left octets found stop (Some rest) told = by_case octets found stop rest told
