-- The report of a trace, and what a status says of it.
use Rattle.std.specs.Prelude.{◌≡◌, ℕ, ◌+◌, ◌<◌, ◌≤◌, ◌⊎◌, All, Bool, true, List, [], ◌∷◌}
use Rattle.std.specs.Prelude.{◌++◌, length, Option, flat_map}
use Rattle.std.specs.Io.KnownBytes.{Appends}
use Rattle.pc_outside.specs.Line.{NoNewline}
use Rattle.pc_outside.specs.Limits.{newline, line_max}
use Rattle.trace_lines.specs.Epochs.{epochs_of}
use Rattle.trace_lines.specs.Input.{Input, Stop, bad, long, big, ended}
use Rattle.trace_lines.specs.Line.{Line}
use Rattle.lawful_run.specs.Report.{Report, epoch_entries, report_text, texts_of}
use Rattle.lawful_run.specs.Trace.{is_whole}
use Rattle.trace_run.specs.declared.status.Status.{Status}
use Rattle.trace_run.specs.declared.status.Status.TheVariants as status
use Rattle.pc_outside.specs.WhereTold.{WhereTold}
use Rattle.trace_run.specs.Beginnings.{Beginning, input_from, whole_input}

-- Which reports an input may have is a relation, and whether places are told in its text a choice; the definitions
-- below hold for any of them. The text is that of a report that the input may have.
pub record IsText (may_have : Input → Report → Type 0) (places : Bool) (input : Input) (text : List ℕ) : Type 0 where
  pub report : Report
  pub allowed : may_have input report
  pub written : text ≡ report_text places report

-- these lines alone
abbrev pub input_with : List Line → Input
input_with lines = record { lines = lines; stop = ended }

-- The text is that of some first epochs of an input, and no open counters. Each of these epochs is whole: its last line
-- ends an epoch, so none is cut by the input's end, nor by a bad or a long line.
pub record IsEpochsText (may_have : Input → Report → Type 0) (places : Bool) (input : Input) (text : List ℕ) :
    Type 0 where
  pub first : List (List Line)
  pub rest : List (List Line)
  pub parts : epochs_of input.lines ≡ first ++ rest
  pub whole : All (λ epoch. is_whole [] epoch ≡ true) first
  pub report : Report
  pub allowed : may_have (input_with (flat_map (λ epoch. epoch) first)) report
  pub written : text ≡ texts_of places (flat_map epoch_entries report.epochs)

-- no octets, or octets that end with a newline
abbrev pub IsWholeLines : List ℕ → Type 0
IsWholeLines octets = (octets ≡ []) ⊎ ((prefix : List ℕ) × (octets ≡ prefix ++ newline ∷ []))

-- What was taken of the octets is whole lines and an unfinished one, and these are left. The unfinished one isn't too
-- long, and not all octets were taken that are looked at.
pub record TakenFrom (begin : Beginning) (octets left : List ℕ) : Type 0 where
  pub whole : List ℕ
  pub unfinished : List ℕ
  pub parts : octets ≡ whole ++ unfinished ++ left
  pub lines : IsWholeLines whole
  pub no_newline : NoNewline unfinished
  pub short : length unfinished ≤ line_max
  pub within : length whole + length unfinished < begin.room

abbrev pub Taken : (octets left : List ℕ) → Type 0
Taken octets left = TakenFrom whole_input octets left

-- the report of the whole lines that were taken, none of which is bad or long
pub record IsFaultText (begin : Beginning) (may_have : Input → Report → Type 0) (places : Bool)
    (octets left text : List ℕ) : Type 0 where
  pub taken : TakenFrom begin octets left
  pub stop : (input_from begin taken.whole).stop ≡ ended
  pub report : IsText may_have places (input_from begin taken.whole) text

-- a prefix of what another status would have left: of the whole report, or of that of the lines taken where the source
-- failed; or a prefix of the text of some first whole epochs, without open counters
pub record IsCutText (begin : Beginning) (may_have : Input → Report → Type 0) (places : Bool)
    (source_failed : Type 0) (octets left text : List ℕ) : Type 0 where
  pub more : List ℕ
  pub whole : IsText may_have places (input_from begin octets) (text ++ more)
      ⊎ ((source_failed × IsFaultText begin may_have places octets left (text ++ more))
      ⊎ IsEpochsText may_have places (input_from begin octets) (text ++ more))

-- the input stops at a bad line, or at a long one
abbrev pub IsBad : Stop → Type 0
IsBad (bad number why) = Unit {0}
IsBad (long number) = ⊥
IsBad big = ⊥
IsBad ended = ⊥

abbrev pub IsLong : Stop → Type 0
IsLong (bad number why) = ⊥
IsLong (long number) = Unit {0}
IsLong big = ⊥
IsLong ended = ⊥

-- what a run with this status wrote, where the source had these octets and has those left
abbrev pub ReportsFrom : Beginning → (Input → Report → Type 0) → Bool → Status → Type 0
    → (octets left text : List ℕ) → Type 0
ReportsFrom begin may_have places status.Ok source_failed octets left text =
    ((input_from begin octets).stop ≡ ended) × (left ≡ []) × IsText may_have places (input_from begin octets) text
ReportsFrom begin may_have places status.Usage source_failed octets left text = text ≡ []
ReportsFrom begin may_have places status.ReadFault source_failed octets left text =
    IsFaultText begin may_have places octets left text
ReportsFrom begin may_have places status.WriteFault source_failed octets left text =
    IsCutText begin may_have places source_failed octets left text
ReportsFrom begin may_have places status.NoMemory source_failed octets left text =
    IsEpochsText may_have places (input_from begin octets) text
ReportsFrom begin may_have places status.BadLine source_failed octets left text =
    IsBad (input_from begin octets).stop × IsText may_have places (input_from begin octets) text
ReportsFrom begin may_have places status.LineLong source_failed octets left text =
    IsLong (input_from begin octets).stop × IsText may_have places (input_from begin octets) text
ReportsFrom begin may_have places status.TooLong source_failed octets left text =
    ((input_from begin octets).stop ≡ big) × IsText may_have places (input_from begin octets) text
ReportsFrom begin may_have places status.Refuted source_failed octets left text = ⊥
ReportsFrom begin may_have places status.BadCapture source_failed octets left text = ⊥
ReportsFrom begin may_have places status.BadState source_failed octets left text = ⊥
ReportsFrom begin may_have places status.BadReport source_failed octets left text = ⊥

-- octets were appended to what a sink tells, and they are the report of what a source told
pub record RunsFrom (begin : Beginning) (may_have : Input → Report → Type 0) (places : Bool) (ending : Status)
    (source_failed : Type 0) (start left old new : Option (List ℕ)) : Type 0 where
  pub text : List ℕ
  pub written : Appends old new text
  pub report : WhereTold start left
      (λ octets rest. ReportsFrom begin may_have places ending source_failed octets rest text)

-- the same of an input that is a trace alone
abbrev pub Reports : (Input → Report → Type 0) → Bool → Status → Type 0 → List ℕ → List ℕ → List ℕ → Type 0
Reports may_have places ending source_failed octets left text =
    ReportsFrom whole_input may_have places ending source_failed octets left text

abbrev pub Runs : (Input → Report → Type 0) → Bool → Status → Type 0 → (start left old new : Option (List ℕ)) → Type 0
Runs may_have places ending source_failed start left old new =
    RunsFrom whole_input may_have places ending source_failed start left old new

-- Where the input ends with its last line and nothing failed, memory alone can run out.
abbrev pub IsDone : Status → Type 0
IsDone ending = (ending ≡ status.Ok) ⊎ (ending ≡ status.NoMemory)
