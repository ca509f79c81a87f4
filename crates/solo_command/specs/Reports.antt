-- The report of lines that a gateway answers by what its subscribers hold.
use Rattle.std.specs.Prelude.{◌≡◌, ℕ, ◌+◌, ◌==◌, Bool, if◌then◌else◌, List, [], ◌∷◌, ◌++◌, length, map, filter}
use Rattle.std.specs.Prelude.{flat_map, codes}
use Rattle.std.specs.List.{AllByRecursion}
use Rattle.trace_lines.specs.Epochs.{epochs_of}
use Rattle.trace_lines.specs.Input.{Input, Stop, bad, long, big, ended}
use Rattle.trace_lines.specs.Line.{Line}
use Rattle.trace_lines.specs.Word.{word_of}
use Rattle.bearer_state.specs.declared.version.ActiveBearer.{ActiveBearer}
use Rattle.report_lines.specs.Records.{Effected}
use Rattle.report_lines.specs.declared.entry.ChargeEntry.{ChargeEntry}
use Rattle.report_lines.specs.declared.entry.ChargeEntry.TheVariants.{R, O}
use Rattle.subscriber.specs.Standing.{SubscriberState}
use Rattle.lawful_run.specs.Report.{EpochReport, Report}
use Rattle.lawful_run.specs.Run.{by_slot}
use Rattle.lawful_run.specs.Trace.{is_whole}
use Rattle.trace_run.specs.Entries.{open_for}
use Rattle.record_codec.specs.Saved.{FileState, IsResting, all_saved}
use Rattle.solo_command.specs.Gateway.{AnswersLines, Gateway, Told, noted}

-- whose a charging record is
abbrev pub is_of : ℕ → ChargeEntry → Bool
is_of slot (R own row) = own == slot
is_of slot (O own counters) = own == slot

-- the report of an epoch whose lines are told so: their entries, then by slot their effects and their charging records
abbrev pub told_epoch : (slots : ℕ) → List Told → EpochReport
told_epoch slots told = record {
  lines = map (λ (one : Told). one.entry) told;
  effects = by_slot slots (λ slot. filter (λ (effected : Effected). effected.slot == slot)
      (flat_map (λ (one : Told). one.effects) told));
  rows = by_slot slots (λ slot. filter (is_of slot) (flat_map (λ (one : Told). one.rows) told));
}

-- the open counters of a slot's bearers, by index · those of all slots
abbrev pub opens_of : ℕ → SubscriberState → List ChargeEntry
opens_of slot one = flat_map (λ (bearer : ActiveBearer). open_for slot one.counters.book.opens bearer.life)
    one.version.bearers

abbrev pub opens_from : ℕ → List SubscriberState → List ChargeEntry
opens_from slot [] = []
opens_from slot (one ∷ others) = opens_of slot one ++ opens_from (slot + 1) others

-- a bad line is noted in the last epoch, or in one of its own where that is whole
abbrev pub stop_told : Stop → List Told
stop_told (bad n why) = noted n (codes "line" ++ 32 ∷ word_of why) ∷ []
stop_told (long n) = []
stop_told big = []
stop_told ended = []

abbrev pub own_told : List Told → List (List Told)
own_told [] = []
own_told (told ∷ others) = (told ∷ others) ∷ []

abbrev pub with_stop : Bool → List Told → List Told → List (List Told)
with_stop whole told stop = if whole then told ∷ own_told stop else (told ++ stop) ∷ []

-- epochs, one behind another, and the note behind them
abbrev pub reports_of : (slots : ℕ) → List (List Told) → List EpochReport
reports_of slots told = map (told_epoch slots) told

abbrev pub AnswersEpochs : (slices : ℕ) → List (List Line) → (stop : List Told) → Gateway → List EpochReport → Gateway
    → Type 0
AnswersEpochs slices [] stop old reports new =
    (reports ≡ reports_of (length old.book) (own_told stop)) × (new ≡ old)
AnswersEpochs slices (last ∷ []) stop old reports new =
    (answers : List Told) × AnswersLines slices last old answers new
    × (reports ≡ reports_of (length new.book) (with_stop (is_whole [] last) answers stop))
AnswersEpochs slices (epoch ∷ next ∷ epochs) stop old [] new = ⊥
AnswersEpochs slices (epoch ∷ next ∷ epochs) stop old (report ∷ reports) new =
    (between : Gateway) × (answers : List Told) × AnswersLines slices epoch old answers between
    × (report ≡ told_epoch (length between.book) answers)
    × AnswersEpochs slices (next ∷ epochs) stop between reports new

-- whole epochs, one behind another
abbrev pub AnswersAll : (slices : ℕ) → List (List Line) → Gateway → List EpochReport → Gateway → Type 0
AnswersAll slices [] old [] new = new ≡ old
AnswersAll slices [] old (report ∷ reports) new = ⊥
AnswersAll slices (epoch ∷ epochs) old [] new = ⊥
AnswersAll slices (epoch ∷ epochs) old (report ∷ reports) new =
    (between : Gateway) × (answers : List Told) × AnswersLines slices epoch old answers between
    × (report ≡ told_epoch (length between.book) answers) × AnswersAll slices epochs between reports new

-- the report that a gateway gives of an input, line by line
pub record Gives (slices : ℕ) (first : Gateway) (input : Input) (report : Report) : Type 0 where
  pub last : Gateway
  pub epochs : AnswersEpochs slices (epochs_of input.lines) (stop_told input.stop) first report.epochs last
  pub opens : report.opens ≡ opens_from 0 last.subscribers

-- a gateway that a state has · the report that it gives of an input behind the state
pub record IsGatewayOf (file : FileState) (gateway : Gateway) : Type 0 where
  pub many : length gateway.subscribers ≡ length gateway.book
  pub saved : file.subscribers ≡ all_saved gateway.book gateway.subscribers
  pub resting : AllByRecursion IsResting gateway.subscribers

pub record IsResumed (slices : ℕ) (file : FileState) (input : Input) (report : Report) : Type 0 where
  pub gateway : Gateway
  pub has_state : IsGatewayOf file gateway
  pub gives : Gives slices gateway input report
