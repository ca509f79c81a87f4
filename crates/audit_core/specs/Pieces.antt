-- A piece of an audit that goes along: the lines of one epoch with the entries that stand behind them, where all before
-- is lawful. What it has to meet are the sentences of the lawful run, each of this epoch alone.
use Rattle.std.specs.Prelude.{◌≡◌, ℕ, ◌+◌, ◌*◌, ◌<◌, ◌≤◌, ◌^◌, ◌||◌, nat_le, nat_lt, Bool, if◌then◌else◌, IfNone}
use Rattle.std.specs.Prelude.{IfSome, Option, Some, None, List, [], ◌∷◌, ◌++◌, All, filter_map, find, length, map}
use Rattle.std.specs.Borrow.{Bor}
use Rattle.std.specs.Option.{option_map}
use Rattle.demux.specs.Trace.{Meaning}
use Rattle.report_lines.specs.declared.entry.ChargeEntry.{ChargeEntry}
use Rattle.report_lines.specs.declared.entry.Entry.{Entry}
use Rattle.report_lines.specs.declared.entry.Entry.TheVariants as entry
use Rattle.report_lines.specs.declared.entry.LineEntry.{LineEntry}
use Rattle.lawful_run.specs.Answers.{AnswersAll}
use Rattle.lawful_run.specs.LinesTold.{LineTold, lines_told}
use Rattle.lawful_run.specs.Merging.{Histories, behind}
use Rattle.lawful_run.specs.Outcomes.{opens}
use Rattle.lawful_run.specs.Report.{EpochReport, epoch_entries}
use Rattle.lawful_run.specs.Run.{by_slot}
use Rattle.lawful_run.specs.Setup.{Setup}
use Rattle.at_rest.specs.Meant.{AreStanding}
use Rattle.at_rest.specs.Rest.{AreAtRest}
use Rattle.subscriber.specs.Standing.{SubscriberState}
use Rattle.audit_core.specs.Agreeing.{AgreeBySlot, AreTold, slot_effected}
use Rattle.audit_core.specs.Belonging.{effect_of, row_of}
use Rattle.audit_core.specs.Bounds.{IsCountBreak}
use Rattle.audit_core.specs.Charges.{ItemBreak, OpenBreakOf}
use Rattle.audit_core.specs.Entries.{line_entries, line_of, opens_told, slot_charged}
use Rattle.audit_core.specs.Gateway.{IsGatewayBreak}
use Rattle.audit_core.specs.Holding.{AreKnown}
use Rattle.audit_core.specs.Judged.{ComeLater}
use Rattle.audit_core.specs.Kept.{ArePlaced, meanings_in}
use Rattle.audit_core.specs.Matched.{UnansweredIn, entries_stood, in_range}
use Rattle.audit_core.specs.Meant.{StandsTold, lines_of}
use Rattle.audit_core.specs.OfSlot.{AreAnswered}
use Rattle.audit_core.specs.Played.{AreBoundAs, HasPlayed, latest_of}
use Rattle.audit_core.specs.Ranks.{rank_of}
use Rattle.audit_core.specs.Sentences.{AreNumbered, AreOfTheGateway, CountsAreLawful, WaitsAreLawful, made_epoch}
use Rattle.audit_core.specs.Setups.{setup_of}
use Rattle.audit_core.specs.Telling.{at_line, dash}
use Rattle.audit_core.specs.Walking.{HasWalked}
use Rattle.audit_core.specs.Why.{NumberBreak, OrderBreak, WaitBreak}
use Rattle.slot_execution.specs.declared.kept.KeptMeaning.{KeptMeaning}
use Rattle.audit_core.specs.declared.report.Stood.{Stood}
use Rattle.audit_core.specs.declared.sentence.Refutation.{Refutation}
use Rattle.audit_core.specs.declared.sentence.Sentence.{Sentence}
use Rattle.audit_core.specs.declared.sentence.Sentence.TheVariants as of
use Rattle.audit_core.specs.declared.setup.Setup.{Setup as Given}
use Rattle.audit_core.specs.declared.slots.Played.{Played}
use Rattle.audit_core.specs.declared.telling.Break.{Break}
use Rattle.audit_core.specs.declared.told_line.ToldLine.{ToldLine}
use Rattle.audit_core.specs.declared.walking.Walked.{Walked}

-- the setup; how many slots are known behind its lines, how many lines stand before it, and the events of each slot
-- before it; what its lines mean, its entries, and whether it is the last piece
pub record Piece : Type 0 where
  pub setup : Setup
  pub slots : ℕ
  pub lines : ℕ
  pub before : Histories
  pub made : List Meaning
  pub entries : List Entry
  pub last : Bool

-- the entries of its lines, in line order, and the lines with them
abbrev pub answers_in : Piece → List LineEntry
answers_in own = in_range (own.lines + 1) (length own.made) (line_entries own.entries)

abbrev pub told_in : Piece → List LineTold
told_in own = lines_told own.made (answers_in own)

-- what they lead to, and the events of each slot behind them
abbrev pub led_by : Piece → EpochReport
led_by own = made_epoch own.slots own.before (told_in own)

abbrev pub events_behind : Piece → Histories
events_behind own = behind own.before (told_in own)

-- the open counters that are asked for: those behind all events where the piece is the last one, else none
abbrev pub opens_behind : Piece → List ChargeEntry
opens_behind own = by_slot own.slots (λ slot. opens slot (events_behind own slot))

abbrev pub opens_asked : Piece → List ChargeEntry
opens_asked own = if own.last then opens_behind own else []

-- the entries that it has to have
abbrev pub piece_entries : Piece → List Entry
piece_entries own = epoch_entries (led_by own) ++ map entry.Charge (opens_asked own)

-- whether an entry is of a line that isn't among so many behind others
abbrev pub is_elsewhere : (before count : ℕ) → LineEntry → Bool
is_elsewhere before count told = nat_le (line_of told) before || nat_lt (before + count) (line_of told)

-- What a sentence asks of it.
abbrev pub HoldsIn : Piece → Sentence → Type 0
HoldsIn own of.Entries = Unit {0}
HoldsIn own of.Answers = AnswersAll (own.lines + 1) own.made (answers_in own)
HoldsIn own of.Outside = find (is_elsewhere own.lines (length own.made)) (line_entries own.entries) ≡ None
HoldsIn own of.Numbers = AreNumbered own.before (told_in own)
HoldsIn own of.Counts = CountsAreLawful own.before (told_in own)
HoldsIn own of.Gateway = AreOfTheGateway own.before (told_in own)
HoldsIn own of.Effects = AgreeBySlot slot_effected (filter_map effect_of own.entries) (led_by own).effects
HoldsIn own of.Rows = AgreeBySlot slot_charged (filter_map row_of own.entries) (led_by own).rows
HoldsIn own of.Opens = AreTold (opens_told own.entries) (opens_asked own)
HoldsIn own of.Waits = WaitsAreLawful own.setup own.before (told_in own)
HoldsIn own of.Order = own.entries ≡ piece_entries own

-- A break of it, as an audit of the whole has it.
abbrev pub BreaksIn : Piece → Sentence → Break → Type 0
BreaksIn own of.Entries found = ⊥
BreaksIn own of.Answers found = UnansweredIn (own.lines + 1) own.made (answers_in own) found
BreaksIn own of.Outside found =
    (now : LineEntry) × (find (is_elsewhere own.lines (length own.made)) (line_entries own.entries) ≡ Some now)
    × (found ≡ at_line now dash)
BreaksIn own of.Numbers found = NumberBreak own.before (told_in own) found
BreaksIn own of.Counts found = IsCountBreak own.before (told_in own) found
BreaksIn own of.Gateway found = IsGatewayBreak own.before (told_in own) found
BreaksIn own of.Effects found =
    ItemBreak slot_effected entry.Effect own.slots (filter_map effect_of own.entries) (led_by own).effects found
BreaksIn own of.Rows found =
    ItemBreak slot_charged entry.Charge own.slots (filter_map row_of own.entries) (led_by own).rows found
BreaksIn own of.Opens found = OpenBreakOf (opens_told own.entries) (opens_asked own) found
BreaksIn own of.Waits found = WaitBreak own.setup own.before (told_in own) found
BreaksIn own of.Order found = OrderBreak own.entries (piece_entries own) found

-- It is lawful. Or a sentence is broken, and those before it hold.
abbrev pub IsLawfulPiece : Piece → Type 0
IsLawfulPiece own = (s : Sentence) → HoldsIn own s

pub record BreaksFirst (own : Piece) (found : Refutation) : Type 0 where
  pub holds : (s : Sentence) → rank_of s < rank_of found.sentence → HoldsIn own s
  pub breaks : BreaksIn own found.sentence found.place

abbrev pub FoundIn : Piece → Option Refutation → Type 0
FoundIn own None = IsLawfulPiece own
FoundIn own (Some found) = BreaksFirst own found

-- So it is of the sentences of which fewer than so many go before; and what is found where the next one is asked too.
abbrev pub FoundTo : Piece → ℕ → Option Refutation → Type 0
FoundTo own done None = (s : Sentence) → rank_of s < done → HoldsIn own s
FoundTo own done (Some found) = (rank_of found.sentence < done) × BreaksFirst own found

abbrev pub found_behind : Option Refutation → Sentence → Option Break → Option Refutation
found_behind (Some first) s found = Some first
found_behind None s found = option_map (λ place. record { sentence = s; place = place }) found

-- a line entry that is lent, where there is one
abbrev pub lent_line : Option (Bor LineEntry) → Option LineEntry
lent_line found = option_map (λ (told : Bor LineEntry). told.now) found

-- The program holds it: its lines, by what they mean, and its entries; its subscribers stand at rest before its events,
-- and no line is earlier than what they have seen.
pub record ComesBehind (own : Piece) (setup : Given) (octets : List ℕ) (lines : List KeptMeaning)
    (entries : List Stood) (subscribers : List SubscriberState) : Type 0 where
  pub setup_is : setup_of setup ≡ own.setup
  pub means : meanings_in octets lines ≡ own.made
  pub placed : ArePlaced octets lines
  pub entries_are : entries_stood entries ≡ own.entries
  pub known : AreKnown own.slots (own.made ∷ [])
  pub many : length subscribers ≡ own.slots
  pub standing : AreStanding subscribers own.before
  pub slices : ℕ
  pub latest : ℕ
  pub rest : AreAtRest slices own.lines latest subscribers
  pub late : ComeLater latest own.made
  pub few : own.lines + length own.made < 2 ^ 40

-- each line of it has its entry
pub record IsToldIn (own : Piece) (setup : Given) (lines : List ToldLine) (entries : List Stood)
    (subscribers : List SubscriberState) : Type 0 where
  pub setup_is : setup_of setup ≡ own.setup
  pub are : lines_of lines ≡ told_in own
  pub means : map (λ (told : LineTold). told.meaning) (told_in own) ≡ own.made
  pub has : map (λ (told : LineTold). told.entry) (told_in own) ≡ answers_in own
  pub answered : AreAnswered (own.lines + 1) (told_in own)
  pub holds : AnswersAll (own.lines + 1) own.made (answers_in own)
  pub stand : All StandsTold lines
  pub entries_are : entries_stood entries ≡ own.entries
  pub known : AreKnown own.slots (own.made ∷ [])
  pub many : length subscribers ≡ own.slots
  pub standing : AreStanding subscribers own.before
  pub slices : ℕ
  pub latest : ℕ
  pub rest : AreAtRest slices own.lines latest subscribers
  pub late : ComeLater latest own.made
  pub few : own.lines + length own.made < 2 ^ 40

-- what walks along its lines, what they lead to, and the open counters asked for
pub record IsLedIn (own : Piece) (slots : ℕ) (setup : Given) (lines : List ToldLine) (entries : List Stood)
    (walked : Walked) (played : Played) (opens : List ChargeEntry) : Type 0 where
  pub setup_is : setup_of setup ≡ own.setup
  pub slots_are : slots ≡ own.slots
  pub are : lines_of lines ≡ told_in own
  pub answered : AreAnswered (own.lines + 1) (told_in own)
  pub holds : AnswersAll (own.lines + 1) own.made (answers_in own)
  pub entries_are : entries_stood entries ≡ own.entries
  pub walks : HasWalked setup own.before (told_in own) walked
  pub plays : HasPlayed own.slots own.before (told_in own) played
  pub opens_are : opens ≡ opens_asked own

-- the subscribers stand at rest behind its events, bound for the slices that they were bound for
pub record RestsSo (own : Piece) (slices latest : ℕ) (before subscribers : List SubscriberState) : Type 0 where
  pub many : length subscribers ≡ own.slots
  pub standing : AreStanding subscribers (events_behind own)
  pub rest : AreAtRest slices (own.lines + length own.made) (latest_of latest (told_in own)) subscribers
  pub bound : AreBoundAs before subscribers
