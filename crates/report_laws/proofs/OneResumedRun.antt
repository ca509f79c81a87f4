-- Two runs of `resume` over the same octets.
use Rattle.std.proofs.Common.{◌≡◌, ℕ, ◌+◌, ◌<◌, ◌≤◌, ◌^◌, false, List, length, inl, inr, refl, sym, ap, ◌∙◌, subst, arith, length-append}
use Rattle.pc_outside.specs.Faults.{Rises}
use Rattle.pc_outside.specs.InputRead.{HasRead}
use Rattle.pc_outside.specs.Texts.{Text, texts_of}
use Rattle.pc_outside.specs.Texts as texts
use Rattle.trace_lines.specs.Input.{Input, input_within}
use Rattle.trace_lines.proofs.InputLemmas.{at_end}
use Rattle.lawful_run.specs.Report.{Report, report_text}
use Rattle.record_codec.specs.Saved.{FileState}
use Rattle.trace_run.specs.Beginnings.{input_from}
use Rattle.trace_run.specs.Report.{IsText}
use Rattle.trace_run.specs.declared.status.Status.{Status}
use Rattle.trace_run.specs.declared.status.Status.TheVariants as status
use Rattle.solo_command.specs.Reports.{IsResumed}
use Rattle.solo_command.specs.Law.{TellsAll}
use Rattle.solo_command.specs.Resumes.{HasState, Resumed, ResumesAs, StatesAreOne, StoppedFirst, begins_at}
use Rattle.solo_command.proofs.LawTexts.{lines_most}
use Rattle.solo_command.proofs.ResumeRuns.{behind_state, has_told, resumed_of, told_as}
use Rattle.report_laws.specs.OneText.{OneResumedText}
use Rattle.report_laws.proofs.OneResumed.{one_report}

-- ---- what is said behind the state is one input

-- the trace behind a state is a part of the octets
ahead_short : (octets : List ℕ) (found : HasState octets) → length found.ahead ≤ length octets
ahead_short octets found = elim found.read [
  | inl read ↦ omega (arith, ap length read.parts ∙ length-append read.gone found.ahead)
  | inr all ↦ omega (arith, ap length all.0)
]

one_ahead : (octets : List ℕ) (one other : HasState octets) → length octets < 2 ^ 40 → one.texts ≡ other.texts
    → (number least : ℕ)
    → input_within one.room number least one.ahead ≡ input_within other.room number least other.ahead
one_ahead octets one other few same number least = elim other.read [
  | inl own ↦
      behind_state octets other.ahead other.room one.texts few
      (subst (λ (ts : List Text). HasRead octets other.ahead other.room ts) (sym same) own) one refl number least
  | inr all ↦ elim one.read [
    | inl own ↦
        sym (behind_state octets one.ahead one.room other.texts few
        (subst (λ (ts : List Text). HasRead octets one.ahead one.room ts) same own) other refl number least)
    | inr both ↦
        ap (λ (os : List ℕ). input_within one.room number least os) both.0
        ∙ at_end one.room number least both.3 ∙ sym (at_end other.room number least all.3)
        ∙ ap (λ (os : List ℕ). input_within other.room number least os) (sym all.0)
  ]
]

one_input : (octets : List ℕ) (one other : HasState octets) → length octets < 2 ^ 40 → one.texts ≡ other.texts
    → one.file ≡ other.file
    → input_from (begins_at one.file one.room) one.ahead ≡ input_from (begins_at other.file other.room) other.ahead
one_input octets one other few same_texts same_file =
    ap (λ (file : FileState). input_within one.room (file.lines + 1) file.moment one.ahead) same_file
    ∙ one_ahead octets one other few same_texts (other.file.lines + 1) other.file.moment

-- ---- both found the state

abbrev AreAlike : Status → Status → (one other : List ℕ) → Type 0
AreAlike ending other_ending one other = (ending ≡ other_ending) × (one ≡ other)

resumed_one : StatesAreOne → (octets left other_left one other : List ℕ) (ending other_ending : Status)
    (failed other_failed : Type 0) → length octets < 2 ^ 40 → TellsAll ending → TellsAll other_ending
    → Resumed ending failed octets left one → Resumed other_ending other_failed octets other_left other
    → AreAlike ending other_ending one other
resumed_one states octets left other_left one other ending other_ending failed other_failed few tells other_tells first
    second =
    let state = first.state in
    let own = second.state in
    let same = states octets state own in
    let input : Input = input_from (begins_at state.file state.room) state.ahead in
    let inputs : input ≡ input_from (begins_at own.file own.room) own.ahead =
    one_input octets state own few same.0 same.1 in
    let told = has_told (begins_at state.file state.room) (IsResumed 64 state.file) ending failed state.ahead left one
    tells first.report in
    let told_too = has_told (begins_at own.file own.room) (IsResumed 64 own.file) other_ending other_failed own.ahead
    other_left other other_tells second.report in
    let also : IsText (IsResumed 64 state.file) false input other =
    subst (λ (file : FileState). IsText (IsResumed 64 file) false input other) (sym same.1)
    (subst (λ (i : Input). IsText (IsResumed 64 own.file) false i other) (sym inputs) told_too.text_is) in
    let lines : length input.lines < 2 ^ 50 =
    omega (
      arith,
      few,
      ahead_short octets state,
      lines_most state.room (state.file.lines + 1) state.file.moment state.ahead,
    ) in
    let reports : told.text_is.report ≡ also.report =
    one_report 64 state.file input told.text_is.report also.report state.says.kept lines told.text_is.allowed
    also.allowed in (
      told.ending_is ∙ ap (λ (i : Input). told_as i.stop) inputs ∙ sym told_too.ending_is,
      told.text_is.written ∙ ap (λ (report : Report). report_text false report) reports ∙ sym also.written,
    )

-- ---- or none did

-- the status that tells why no state was found
abbrev stopped_as : texts.Stop → Status
stopped_as texts.long = status.LineLong
stopped_as texts.big = status.TooLong
stopped_as texts.ended = status.Ok

stopped_why : (ending : Status) (octets left : List ℕ) → TellsAll ending → StoppedFirst ending octets left
    → ending ≡ stopped_as (texts_of octets).stop
stopped_why status.Ok octets left tells stopped = absurd stopped
stopped_why status.Usage octets left tells stopped = absurd tells
stopped_why status.ReadFault octets left tells stopped = absurd tells
stopped_why status.WriteFault octets left tells stopped = absurd tells
stopped_why status.NoMemory octets left tells stopped = absurd tells
stopped_why status.BadLine octets left tells stopped = absurd stopped
stopped_why status.LineLong octets left tells stopped = ap stopped_as (sym stopped.0)
stopped_why status.TooLong octets left tells stopped = ap stopped_as (sym stopped.0)
stopped_why status.Refuted octets left tells stopped = absurd tells
stopped_why status.BadCapture octets left tells stopped = absurd tells
stopped_why status.BadState octets left tells stopped = absurd tells
stopped_why status.BadReport octets left tells stopped = absurd tells

runs_one : StatesAreOne → (octets left other_left one other : List ℕ) (ending other_ending : Status)
    (failed other_failed : Type 0) → length octets < 2 ^ 40 → TellsAll ending → TellsAll other_ending
    → ResumesAs ending failed octets left one → ResumesAs other_ending other_failed octets other_left other
    → AreAlike ending other_ending one other
runs_one states octets left other_left one other ending other_ending failed other_failed few tells other_tells
    (inr first) second =
    resumed_one states octets left other_left one other ending other_ending failed other_failed few tells other_tells
    first (resumed_of other_ending other_failed octets other_left other first.state other_tells second)
runs_one states octets left other_left one other ending other_ending failed other_failed few tells other_tells
    (inl first) (inr second) =
    resumed_one states octets left other_left one other ending other_ending failed other_failed few tells other_tells
    (resumed_of ending failed octets left one second.state tells (inl first)) second
runs_one states octets left other_left one other ending other_ending failed other_failed few tells other_tells
    (inl first) (inl second) = (
      stopped_why ending octets left tells first.0 ∙ sym (stopped_why other_ending octets other_left other_tells second.0),
      first.1 ∙ sym second.1,
    )

pub one_text : StatesAreOne → OneResumedText
one_text states octets one other ending other_ending few tells other_tells first second =
    runs_one states octets first.left second.left one other ending other_ending (Rises first.faults first.later)
    (Rises second.faults second.later) few tells other_tells first.resumes second.resumes
