-- What is found of the epochs of a trace, one after another.
use Rattle.std.specs.Prelude.{◌≡◌, ℕ, ◌+◌, ◌<◌, ◌≤◌, ◌^◌, nat_lt, if◌then◌else◌, Option, None, Some}
use Rattle.std.specs.Prelude.{List, [], ◌∷◌, ◌++◌, All, length, find, flat_map, map}
use Rattle.demux.specs.Trace.{Meaning}
use Rattle.report_lines.specs.declared.entry.Entry.{Entry}
use Rattle.report_lines.specs.declared.entry.Entry.TheVariants as entry
use Rattle.report_lines.specs.declared.entry.LineEntry.{LineEntry}
use Rattle.lawful_run.specs.Answers.{AnswersAll}
use Rattle.lawful_run.specs.LinesTold.{LineTold}
use Rattle.lawful_run.specs.Merging.{Histories}
use Rattle.lawful_run.specs.Report.{EpochReport, entries_of, epoch_entries}
use Rattle.lawful_run.specs.Run.{no_events}
use Rattle.lawful_run.specs.Setup.{Setup}
use Rattle.at_rest.specs.Meant.{AreStanding}
use Rattle.at_rest.specs.Rest.{AreAtRest}
use Rattle.subscriber.specs.Standing.{SubscriberState}
use Rattle.audit_core.specs.Agreeing.{AreTold, slot_effected}
use Rattle.audit_core.specs.AnswerPlaces.{IsUnanswered, is_outside}
use Rattle.audit_core.specs.Bounds.{IsCountBreak}
use Rattle.audit_core.specs.Charges.{AgreeUpTo, EpochsBreak, OpenBreak}
use Rattle.audit_core.specs.Entries.{all_lines, effects_told, in_line_order, line_entries, opens_told, rows_told}
use Rattle.audit_core.specs.Entries.{slot_charged}
use Rattle.audit_core.specs.Gateway.{IsGatewayBreak}
use Rattle.audit_core.specs.Belonging.{AreThose, IsHeld, placed_in}
use Rattle.audit_core.specs.Holding.{AreKnown}
use Rattle.audit_core.specs.Kept.{ArePlaced, meanings_in}
use Rattle.audit_core.specs.Matched.{in_range}
use Rattle.audit_core.specs.Meant.{StandsTold, lines_of}
use Rattle.audit_core.specs.OfSlot.{AreAnswered}
use Rattle.audit_core.specs.Played.{HasPlayed, moment_behind}
use Rattle.audit_core.specs.Ranks.{number_of, rank_of}
use Rattle.audit_core.specs.Sentences.{AreNumbered, AreOfTheGateway, CountsAreLawful, EachEpoch, EffectsAre, RowsAre}
use Rattle.audit_core.specs.Sentences.{Sentence, WaitsAreLawful, behind_epochs, made_epoch, made_epochs, made_report}
use Rattle.audit_core.specs.Sentences.{told_epochs}
use Rattle.audit_core.specs.Setups.{setup_of}
use Rattle.audit_core.specs.Telling.{at_line, dash}
use Rattle.audit_core.specs.Walking.{HasWalked}
use Rattle.audit_core.specs.Why.{EpochBreak, IsBreak, NumberBreak, OrderBreak, WaitBreak}
use Rattle.audit_core.specs.declared.judge.Judge.{Judge}
use Rattle.slot_execution.specs.declared.kept.KeptMeaning.{KeptMeaning}
use Rattle.audit_core.specs.declared.report.Report.{Report as Heard}
use Rattle.audit_core.specs.declared.report.Stood.{Stood}
use Rattle.audit_core.specs.declared.sentence.Refutation.{Refutation}
use Rattle.audit_core.specs.declared.sentence.Sentence.{Sentence as Asked}
use Rattle.audit_core.specs.declared.sentence.Sentence.TheVariants as of
use Rattle.audit_core.specs.declared.setup.Setup.{Setup as Given}
use Rattle.audit_core.specs.declared.slots.Played.{Played}
use Rattle.audit_core.specs.declared.telling.Break.{Break}
use Rattle.audit_core.specs.declared.told_line.ToldLine.{ToldLine}
use Rattle.audit_core.specs.declared.walking.Walked.{Walked}

-- what a trace and its report say: what the lines of all epochs mean, the entries, and the setup
pub record Case : Type 0 where
  pub setup : Setup
  pub slots : ℕ
  pub made : List (List Meaning)
  pub entries : List Entry

-- the lines of all epochs with their entries, what these lead to, and the entries of it
abbrev pub told_of : Case → List (List LineTold)
told_of own = told_epochs own.made own.entries

abbrev pub led_to : Case → List (List LineTold) → List EpochReport
led_to own told = made_epochs own.slots no_events told

abbrev pub due_of : Case → List (List LineTold) → List Entry
due_of own told = flat_map epoch_entries (led_to own told)

-- What is asked of the first epochs: of their lines the first sentence, and each other one.
abbrev pub HoldsOf : Case → List (List Meaning) → List (List LineTold) → Asked → Type 0
HoldsOf own prefix told of.Entries = Unit {0}
HoldsOf own prefix told of.Answers =
    AnswersAll 1 (all_lines prefix) (in_line_order (length (all_lines prefix)) (line_entries own.entries))
HoldsOf own prefix told of.Outside =
    find (is_outside (length (all_lines own.made))) (line_entries own.entries) ≡ None
HoldsOf own prefix told of.Numbers = EachEpoch AreNumbered no_events told
HoldsOf own prefix told of.Counts = EachEpoch CountsAreLawful no_events told
HoldsOf own prefix told of.Gateway = EachEpoch AreOfTheGateway no_events told
HoldsOf own prefix told of.Effects = AgreeUpTo slot_effected (λ epoch. effects_told own.made epoch own.entries)
    (λ (now : EpochReport). now.effects) 0 (led_to own told)
HoldsOf own prefix told of.Rows = AgreeUpTo slot_charged (λ epoch. rows_told own.made epoch own.entries)
    (λ (now : EpochReport). now.rows) 0 (led_to own told)
HoldsOf own prefix told of.Opens = Unit {0}
HoldsOf own prefix told of.Waits = EachEpoch (WaitsAreLawful own.setup) no_events told
HoldsOf own prefix told of.Order = (later : List Entry) × (own.entries ≡ due_of own told ++ later)

-- what is asked of all epochs, and of what stands behind them
abbrev pub HoldsWhole : Case → Asked → Type 0
HoldsWhole own of.Entries = Unit {0}
HoldsWhole own of.Answers =
    AnswersAll 1 (all_lines own.made) (in_line_order (length (all_lines own.made)) (line_entries own.entries))
HoldsWhole own of.Outside = find (is_outside (length (all_lines own.made))) (line_entries own.entries) ≡ None
HoldsWhole own of.Numbers = EachEpoch AreNumbered no_events (told_of own)
HoldsWhole own of.Counts = EachEpoch CountsAreLawful no_events (told_of own)
HoldsWhole own of.Gateway = EachEpoch AreOfTheGateway no_events (told_of own)
HoldsWhole own of.Effects = EffectsAre own.made own.entries 0 (led_to own (told_of own))
HoldsWhole own of.Rows = RowsAre own.made own.entries 0 (led_to own (told_of own))
HoldsWhole own of.Opens = AreTold (opens_told own.entries) (made_report own.slots (told_of own)).opens
HoldsWhole own of.Waits = EachEpoch (WaitsAreLawful own.setup) no_events (told_of own)
HoldsWhole own of.Order = own.entries ≡ entries_of (made_report own.slots (told_of own))

-- A break of a sentence, in the whole of a case. A line that is no entry is found before anything is judged.
abbrev pub BreakOf : Case → Asked → Break → Type 0
BreakOf own of.Entries found = ⊥
BreakOf own of.Answers found = IsUnanswered own.made own.entries found
BreakOf own of.Outside found =
    (now : LineEntry) × (find (is_outside (length (all_lines own.made))) (line_entries own.entries) ≡ Some now)
    × (found ≡ at_line now dash)
BreakOf own of.Numbers found = EpochBreak AreNumbered NumberBreak (told_of own) found
BreakOf own of.Counts found = EpochBreak CountsAreLawful IsCountBreak (told_of own) found
BreakOf own of.Gateway found = EpochBreak AreOfTheGateway IsGatewayBreak (told_of own) found
BreakOf own of.Effects found =
    EpochsBreak slot_effected entry.Effect own.slots (λ epoch. effects_told own.made epoch own.entries)
    (λ (now : EpochReport). now.effects) (led_to own (told_of own)) found
BreakOf own of.Rows found =
    EpochsBreak slot_charged entry.Charge own.slots (λ epoch. rows_told own.made epoch own.entries)
    (λ (now : EpochReport). now.rows) (led_to own (told_of own)) found
BreakOf own of.Opens found = OpenBreak own.entries (made_report own.slots (told_of own)) found
BreakOf own of.Waits found = EpochBreak (WaitsAreLawful own.setup) (WaitBreak own.setup) (told_of own) found
BreakOf own of.Order found = OrderBreak own.entries (entries_of (made_report own.slots (told_of own))) found

-- the number up to which sentences hold
abbrev pub number_asked : Option Refutation → ℕ
number_asked None = 7
number_asked (Some found) = number_of found.sentence

-- how many sentences go before the one that is broken so far, of all
abbrev pub asked_of : Option Refutation → ℕ
asked_of None = 11
asked_of (Some found) = rank_of found.sentence

abbrev pub IsBroken : Case → Option Refutation → Type 0
IsBroken own None = Unit {0}
IsBroken own (Some found) = BreakOf own found.sentence found.place

-- what is kept where something is found of a sentence, or nothing
abbrev pub offered : Option Refutation → Asked → Option Break → Option Refutation
offered broken s None = broken
offered broken s (Some place) =
    if nat_lt (rank_of s) (asked_of broken) then Some (record { sentence = s; place = place }) else broken

-- Sentences are asked one after another, so many of them up to now: of those that go before what is kept these hold as
-- they are to, the others as they did.
pub record Partly (own : Case) (Old New : Asked → Type 0) (done : ℕ) (broken : Option Refutation) : Type 0 where
  pub new : (s : Asked) → rank_of s < asked_of broken → rank_of s < done → New s
  pub old : (s : Asked) → rank_of s < asked_of broken → done ≤ rank_of s → Old s
  pub kept : IsBroken own broken

-- The first epochs were judged, and these are left: each sentence that goes before what is kept holds of them, and what
-- is kept is the first break of its sentence.
pub record HasJudged (own : Case) (prefix left : List (List Meaning)) (told later : List (List LineTold))
    (judge : Judge) : Type 0 where
  pub parts : own.made ≡ prefix ++ left
  pub told_parts : told_of own ≡ told ++ later
  pub as_many : length told ≡ length prefix
  pub lines : judge.lines ≡ length (all_lines prefix)
  pub counted : rank_of of.Order < asked_of judge.broken → judge.entries ≡ length (due_of own told)
  pub holds : (s : Asked) → rank_of s < asked_of judge.broken → HoldsOf own prefix told s
  pub kept : IsBroken own judge.broken

-- no packet is earlier than this moment, nor than the one before it
abbrev pub ComeLater : ℕ → List Meaning → Type 0
ComeLater latest [] = Unit {0}
ComeLater latest (now ∷ later) =
    (latest ≤ moment_behind latest now) × ComeLater (moment_behind latest now) later

-- the subscribers stand at rest behind the first epochs, before the lines of the others
pub record RestsBehind (own : Case) (told : List (List LineTold)) (left : List (List Meaning))
    (subscribers : List SubscriberState) (lines : ℕ) : Type 0 where
  pub many : length subscribers ≡ own.slots
  pub stand : AreStanding subscribers (behind_epochs no_events told)
  pub slices : ℕ
  pub latest : ℕ
  pub rest : AreAtRest slices lines latest subscribers
  pub late : ComeLater latest (all_lines left)

-- so they do while more is asked than whether lines are answered
abbrev pub StandsBehind : Case → List (List LineTold) → List (List Meaning) → List SubscriberState → Judge → Type 0
StandsBehind own told left subscribers judge = rank_of of.Numbers < asked_of judge.broken
    → RestsBehind own told left subscribers judge.lines

-- an epoch among all: what its lines mean and which entries they have, between the epochs before it and behind it
pub record Epoch : Type 0 where
  pub prefix : List (List Meaning)
  pub now : List Meaning
  pub left : List (List Meaning)
  pub told : List (List LineTold)
  pub here : List LineTold
  pub later : List (List LineTold)

-- an epoch that is to be judged: its lines, and the entries that belong to it
pub record IsNext (own : Case) (at : Epoch) (octets : List ℕ) (lines : List KeptMeaning) (report : Heard)
    (entries : List Stood) : Type 0 where
  pub means : meanings_in octets lines ≡ at.now
  pub placed : ArePlaced octets lines
  pub held : IsHeld own.made own.entries report
  pub those : AreThose entries (placed_in own.made (length at.prefix) own.entries)
  pub known : AreKnown own.slots (at.now ∷ [])
  pub few : length (all_lines own.made) < 2 ^ 40

-- it is the next one
pub record ComesNext (own : Case) (at : Epoch) (octets : List ℕ) (lines : List KeptMeaning) (report : Heard)
    (entries : List Stood) (subscribers : List SubscriberState) (judge : Judge) : Type 0 where
  pub setup : setup_of judge.setup ≡ own.setup
  pub next : IsNext own at octets lines report entries
  pub judged : HasJudged own at.prefix (at.now ∷ at.left) at.told (at.here ∷ at.later) judge
  pub stands : StandsBehind own at.told (at.now ∷ at.left) subscribers judge
  pub goes_on : rank_of of.Answers < asked_of judge.broken

-- an epoch of all, and the entries that belong to it
pub record IsEpochOf (own : Case) (at : Epoch) (entries : List Stood) : Type 0 where
  pub parts : own.made ≡ at.prefix ++ at.now ∷ at.left
  pub told_parts : told_of own ≡ at.told ++ at.here ∷ at.later
  pub as_many : length at.told ≡ length at.prefix
  pub those : AreThose entries (placed_in own.made (length at.prefix) own.entries)

-- each line of it has its entry
pub record IsTold (own : Case) (at : Epoch) (lines : List ToldLine) (report : Heard) (entries : List Stood) :
    Type 0 where
  pub epoch : IsEpochOf own at entries
  pub is : lines_of lines ≡ at.here
  pub means : map (λ (told : LineTold). told.meaning) at.here ≡ at.now
  pub answered : AreAnswered (length (all_lines at.prefix) + 1) at.here
  pub stand : All StandsTold lines
  pub held : IsHeld own.made own.entries report
  pub known : AreKnown own.slots (at.now ∷ [])
  pub few : length (all_lines own.made) < 2 ^ 40
  pub its : map (λ (told : LineTold). told.entry) at.here
      ≡ in_range (length (all_lines at.prefix) + 1) (length at.now) (line_entries own.entries)

-- what holds before it, and with it
abbrev pub Before : Case → Epoch → Asked → Type 0
Before own at s = HoldsOf own at.prefix at.told s

abbrev pub With : Case → Epoch → Asked → Type 0
With own at s = HoldsOf own (at.prefix ++ at.now ∷ []) (at.told ++ at.here ∷ []) s

-- the events before it
abbrev pub histories_at : Epoch → Histories
histories_at at = behind_epochs no_events at.told

-- what its lines lead to
abbrev pub led_here : Case → Epoch → EpochReport
led_here own at = made_epoch own.slots (histories_at at) at.here

-- how many entries are due so far, while their order is asked for
abbrev pub HasCounted : Case → List (List LineTold) → Judge → Type 0
HasCounted own told judge = rank_of of.Order < asked_of judge.broken → judge.entries ≡ length (due_of own told)

-- so many sentences were asked of it
pub record IsJudgedTo (own : Case) (at : Epoch) (done : ℕ) (judge : Judge) : Type 0 where
  pub partly : Partly own (Before own at) (With own at) done judge.broken
  pub counted : HasCounted own at.told judge

-- it is the next one
pub record IsToldNext (own : Case) (at : Epoch) (lines : List ToldLine) (report : Heard) (entries : List Stood)
    (subscribers : List SubscriberState) (judge : Judge) : Type 0 where
  pub setup : setup_of judge.setup ≡ own.setup
  pub told : IsTold own at lines report entries
  pub judged : HasJudged own at.prefix (at.now ∷ at.left) at.told (at.here ∷ at.later) judge
  pub stands : StandsBehind own at.told (at.now ∷ at.left) subscribers judge
  pub goes_on : rank_of of.Answers < asked_of judge.broken

-- what walks along its lines, and what they lead to
pub record IsLedTo (own : Case) (at : Epoch) (slots : ℕ) (setup : Given) (walked : Walked) (played : Played) :
    Type 0 where
  pub setup_is : setup_of setup ≡ own.setup
  pub many : slots ≡ own.slots
  pub walks : HasWalked setup (histories_at at) at.here walked
  pub plays : HasPlayed own.slots (histories_at at) at.here played

-- All epochs were judged. These entries belong to none of them.
pub record IsEnd (own : Case) (told : List (List LineTold)) (report : Heard) (subscribers : List SubscriberState)
    (judge : Judge) : Type 0 where
  pub setup : setup_of judge.setup ≡ own.setup
  pub judged : HasJudged own own.made [] told [] judge
  pub stands : StandsBehind own told [] subscribers judge
  pub held : IsHeld own.made own.entries report

abbrev pub BelongToNone : Case → List Stood → Type 0
BelongToNone own entries = AreThose entries (placed_in own.made (length own.made) own.entries)

abbrev pub Behind : Case → Asked → Type 0
Behind own s = HoldsOf own own.made (told_of own) s

-- so many sentences were asked of all
pub record IsEndedTo (own : Case) (done : ℕ) (judge : Judge) : Type 0 where
  pub partly : Partly own (Behind own) (HoldsWhole own) done judge.broken
  pub counted : HasCounted own (told_of own) judge

-- an entry of a line that there isn't, before the first epoch
abbrev pub IsOutside : ℕ → List Entry → Option Refutation → Type 0
IsOutside count entries None = find (is_outside count) (line_entries entries) ≡ None
IsOutside count entries (Some found) =
    (now : LineEntry) × (find (is_outside count) (line_entries entries) ≡ Some now)
    × (found ≡ record { sentence = of.Outside; place = at_line now dash })

-- all epochs were judged, and what belongs to none
abbrev pub IsFound : Case → Option Refutation → Type 0
IsFound own None = Unit {0}
IsFound own (Some found) =
    IsBreak own.setup own.slots own.made own.entries (number_of found.sentence) found.place

pub record HasFound (own : Case) (found : Option Refutation) : Type 0 where
  pub holds : (k : ℕ) → k < number_asked found → Sentence own.setup own.slots own.made own.entries k
  pub broken : IsFound own found
