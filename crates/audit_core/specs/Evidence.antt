-- What was heard of a trace and of the report behind it, where lines are kept by what they mean.
use Rattle.std.specs.Prelude.{◌≡◌, ℕ, ◌+◌, ◌*◌, ◌≤◌, ◌^◌, true, false, Bool, List, [], ◌∷◌, ◌++◌, All, Option, bytes_eq}
use Rattle.std.specs.Prelude.{◌<◌, length}
use Rattle.trace_lines.specs.Line.{Line}
use Rattle.lawful_run.specs.Trace.{epochs_told}
use Rattle.lawful_run.specs.Run.{no_events}
use Rattle.at_rest.specs.Meant.{AreStanding}
use Rattle.at_rest.specs.Rest.{AreAtRest}
use Rattle.subscriber.specs.Standing.{SubscriberState}
use Rattle.audit_core.specs.Belonging.{HasTaken, IsHeld, ends_from}
use Rattle.audit_core.specs.Entries.{all_lines}
use Rattle.audit_core.specs.Holding.{AreKnown}
use Rattle.audit_core.specs.Judged.{Case, ComeLater, Epoch, HasJudged, StandsBehind, asked_of}
use Rattle.audit_core.specs.Kept.{ArePlaced, meanings_in}
use Rattle.pc_outside.specs.WhereTold.{WhereTold}
use Rattle.audit_core.specs.Heard.{with_report}
use Rattle.audit_core.specs.Ranks.{rank_of}
use Rattle.pc_outside.specs.InputRead.{HasRead, Reached}
use Rattle.audit_core.specs.Said.{marker, trace_said}
use Rattle.audit_core.specs.Setups.{IsSetup, input_with, setup_of}
use Rattle.audit_core.specs.Sharing.{under}
use Rattle.pc_outside.specs.Texts.{Text}
use Rattle.audit_core.specs.TraceTaken.{HasTakenTrace, IsClosed}
use Rattle.audit_core.specs.TraceTaken as trace
use Rattle.audit_core.specs.declared.evidence.Evidence.{Evidence}
use Rattle.pc_outside.specs.declared.input_stop.InputStop.{InputStop}
use Rattle.audit_core.specs.declared.judge.Judge.{Judge}
use Rattle.slot_execution.specs.declared.kept.KeptMeaning.{KeptMeaning}
use Rattle.audit_core.specs.declared.report.Report.{Report}
use Rattle.audit_core.specs.declared.report.Run.{Run}
use Rattle.audit_core.specs.declared.sentence.Sentence.TheVariants as of
use Rattle.audit_core.specs.declared.setup.BadAt.{BadAt}
use Rattle.audit_core.specs.declared.setup.Setup.{Setup}
use Rattle.audit_core.specs.declared.trace.Trace.{Trace}

-- before the line that parts them a trace is taken; behind it it is closed, and says what all of it does
pub record IsWhole (heard : Evidence) (trace : List Text) : Type 0 where
  pub lines : List Line
  pub stop : Option BadAt
  pub says : trace_said (trace ++ marker ∷ []) ≡ input_with lines stop
  pub closed : IsClosed heard.trace heard.setup.slices lines stop

abbrev pub TracesSo : Bool → Evidence → List Text → Type 0
TracesSo false heard trace = HasTakenTrace heard.setup.slices trace heard.trace
TracesSo true heard trace = IsWhole heard trace

-- these lines were heard
pub record HasHeardOf (heard : Evidence) (texts : List Text) : Type 0 where
  pub setup_is : IsSetup heard.setup
  pub trace_texts : List Text
  pub report_texts : List Text
  pub parts : texts ≡ trace_texts ++ with_report heard.in_report report_texts
  pub before : All (λ text. bytes_eq text marker ≡ false) trace_texts
  pub unopened : heard.in_report ≡ false → report_texts ≡ []
  pub traces : TracesSo heard.in_report heard trace_texts
  pub reports : HasTaken (epochs_told heard.setup.slices (trace_said texts)) report_texts heard.report

pub record EndsOf (stop : InputStop) (start left : Option (List ℕ)) (heard : Evidence) : Type 0 where
  pub done : List Text
  pub hears : HasHeardOf heard done
  pub reached : WhereTold start left (λ octets rest. Reached stop octets rest done)

-- lines and entries are few, where octets are
abbrev pub weight_of : Evidence → ℕ
weight_of heard = trace.weight_of heard.trace + 2 * heard.report.count

-- these lines were read and heard
pub record ProgressOf (start ahead : Option (List ℕ)) (room : ℕ) (heard : Evidence) (done : List Text) : Type 0 where
  pub read : WhereTold start ahead (λ octets rest. HasRead octets rest room done)
  pub hears : HasHeardOf heard done
  pub roomy : weight_of heard + room ≤ 2 ^ 40

-- A trace that was taken whole and its report are those of a case.
pub record IsCaseOf (own : Case) (setup : Setup) (trace : Trace) (report : Report) : Type 0 where
  pub setup_is : setup_of setup ≡ own.setup
  pub held : IsHeld own.made own.entries report
  pub mean : meanings_in trace.octets.items trace.kept.items ≡ all_lines own.made
  pub placed : ArePlaced trace.octets.items trace.kept.items
  pub ends : trace.ends.items ≡ ends_from 0 own.made
  pub many : length trace.subscribers.items ≡ own.slots
  pub few_slots : own.slots ≤ 65533
  pub slices : ℕ
  pub rest : AreAtRest slices 0 0 trace.subscribers.items
  pub no_event : AreStanding trace.subscribers.items no_events
  pub late : ComeLater 0 (all_lines own.made)
  pub known : AreKnown own.slots own.made
  pub few : length trace.kept.items < 2 ^ 40

-- an epoch is the next one, with the runs of its entries
pub record RunsNext (own : Case) (at : Epoch) (octets : List ℕ) (lines : List KeptMeaning) (report : Report)
    (runs : List Run)
    (subscribers : List SubscriberState) (judge : Judge) : Type 0 where
  pub setup : setup_of judge.setup ≡ own.setup
  pub means : meanings_in octets lines ≡ at.now
  pub placed : ArePlaced octets lines
  pub held : IsHeld own.made own.entries report
  pub runs_are : runs ≡ under (length at.prefix) report.runs.items
  pub known : AreKnown own.slots (at.now ∷ [])
  pub few : length (all_lines own.made) < 2 ^ 40
  pub judged : HasJudged own at.prefix (at.now ∷ at.left) at.told (at.here ∷ at.later) judge
  pub stands : StandsBehind own at.told (at.now ∷ at.left) subscribers judge
  pub goes_on : rank_of of.Answers < asked_of judge.broken
