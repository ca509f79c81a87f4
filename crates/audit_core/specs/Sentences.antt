-- The six sentences of the lawful run, over the entries of a report as they were read. Each is read only where those
-- before it hold.
use Rattle.std.specs.Prelude.{◌≡◌, ℕ, zero, suc, ◌+◌, ◌==◌, ◌<◌, List, [], ◌∷◌, length, map, filter}
use Rattle.std.specs.Prelude.{All, Contains}
use Rattle.demux.specs.Trace.{Meaning}
use Rattle.gate_model.specs.Events.{commands_of, packets_of}
use Rattle.report_lines.specs.Records.{Effected}
use Rattle.report_lines.specs.declared.entry.Entry.{Entry}
use Rattle.lawful_run.specs.Answers.{AnswersAll}
use Rattle.lawful_run.specs.Bounds.{MeetsBounds, count_before}
use Rattle.lawful_run.specs.Setup.{Setup}
use Rattle.lawful_run.specs.LinesTold.{LineTold, EachLine}
use Rattle.lawful_run.specs.Merging.{Histories, events_in, behind}
use Rattle.lawful_run.specs.Outcomes as made_of
use Rattle.lawful_run.specs.Parking.{ParkedBehindMoves}
use Rattle.lawful_run.specs.Refusals.{RefusedWhereFull}
use Rattle.lawful_run.specs.Report.{EpochReport, Report, entries_of}
use Rattle.lawful_run.specs.Run.{by_slot, no_events}
use Rattle.lawful_run.specs.Telling.{reply_told, verdict_told}
use Rattle.audit_core.specs.OfSlot.{told_of, NumberOn, CountsRise}
use Rattle.audit_core.specs.Entries.{line_entries, in_line_order, cut, all_lines, effects_told}
use Rattle.audit_core.specs.Entries.{rows_told, opens_told, slot_charged}

-- 1. In order of their lines' numbers the entries of lines answer the lines one by one, and there are no others.
pub record LinesAreAnswered (made : List (List Meaning)) (entries : List Entry) : Type 0 where
  pub answers : AnswersAll 1 (all_lines made) (in_line_order (length (all_lines made)) (line_entries entries))
  pub no_others : length (line_entries entries) ≡ length (all_lines made)

-- the lines of each epoch with their entries
abbrev pub told_epochs : List (List Meaning) → List Entry → List (List LineTold)
told_epochs made entries = cut made (in_line_order (length (all_lines made)) (line_entries entries))

-- something holds of the lines of each epoch, behind the events of each slot before it
abbrev pub EachEpoch : (Histories → List LineTold → Type 0) → Histories → List (List LineTold) → Type 0
EachEpoch P before [] = Unit {0}
EachEpoch P before (lines ∷ epochs) = P before lines × EachEpoch P (behind before lines) epochs

-- 2. The commands and the packets of each slot are numbered on.
abbrev pub AreNumbered : Histories → List LineTold → Type 0
AreNumbered before lines =
    (slot : ℕ) → NumberOn slot (length (commands_of (before slot))) (length (packets_of (before slot))) lines

-- 3. The counts of commands rise, within their bounds.
abbrev pub CountsAreLawful : Histories → List LineTold → Type 0
CountsAreLawful before lines = (slot : ℕ) → CountsRise slot (count_before before slot) lines

-- 4. Replies, verdicts and their octets are those of the one-thread gateway on the slot's events.
pub record AreOfTheGateway (before : Histories) (lines : List LineTold) : Type 0 where
  pub replies : (slot : ℕ) → told_of reply_told slot lines
      ≡ made_of.replies slot (before slot) (events_in (before slot) lines slot)
  pub verdicts : (slot : ℕ) → told_of verdict_told slot lines
      ≡ made_of.verdicts slot (before slot) (events_in (before slot) lines slot)

-- the epoch that its events make
abbrev pub made_epoch : ℕ → Histories → List LineTold → EpochReport
made_epoch slots before lines = record {
  lines = map (λ (told : LineTold). told.entry) lines;
  effects = by_slot slots (λ slot. made_of.effects slot (before slot) (events_in (before slot) lines slot));
  rows = by_slot slots (λ slot. made_of.rows slot (before slot) (events_in (before slot) lines slot));
}

abbrev pub made_epochs : ℕ → Histories → List (List LineTold) → List EpochReport
made_epochs slots before [] = []
made_epochs slots before (lines ∷ epochs) =
    made_epoch slots before lines ∷ made_epochs slots (behind before lines) epochs

abbrev pub behind_epochs : Histories → List (List LineTold) → Histories
behind_epochs before [] = before
behind_epochs before (lines ∷ epochs) = behind_epochs (behind before lines) epochs

-- the report that they make
abbrev pub made_report : ℕ → List (List LineTold) → Report
made_report slots epochs = record {
  epochs = made_epochs slots no_events epochs;
  opens = by_slot slots (λ slot. made_of.opens slot (behind_epochs no_events epochs slot));
}

-- 5. The effects of each slot in each epoch, and its charging records, are those that its events
-- make. Each open counter
-- behind all events has its entry, of as many.
abbrev pub EffectsAre : List (List Meaning) → List Entry → ℕ → List EpochReport → Type 0
EffectsAre made entries epoch [] = (later : ℕ) → effects_told made (epoch + later) entries ≡ []
EffectsAre made entries epoch (now ∷ epochs) =
    ((slot : ℕ) → filter (λ (e : Effected). e.slot == slot) (effects_told made epoch entries)
    ≡ filter (λ (e : Effected). e.slot == slot) now.effects) × EffectsAre made entries (epoch + 1) epochs

abbrev pub RowsAre : List (List Meaning) → List Entry → ℕ → List EpochReport → Type 0
RowsAre made entries epoch [] = (later : ℕ) → rows_told made (epoch + later) entries ≡ []
RowsAre made entries epoch (now ∷ epochs) =
    ((slot : ℕ) → filter (λ r. slot_charged r == slot) (rows_told made epoch entries)
    ≡ filter (λ r. slot_charged r == slot) now.rows) × RowsAre made entries (epoch + 1) epochs

pub record ChargesAre (made : List (List Meaning)) (entries : List Entry) (report : Report) : Type 0 where
  pub effects : EffectsAre made entries 0 report.epochs
  pub rows : RowsAre made entries 0 report.epochs
  pub opens : All (Contains (opens_told entries)) report.opens
  pub as_many : length (opens_told entries) ≡ length report.opens

-- 6. Lines are refused and packets parked only where they may be, and on one thread each packet has just the commands
-- before its line. The entries stand in their order.
pub record WaitsAreLawful (setup : Setup) (before : Histories) (lines : List LineTold) : Type 0 where
  pub refusals : EachLine (RefusedWhereFull setup) lines
  pub parking : EachLine ParkedBehindMoves lines
  pub counts : EachLine (MeetsBounds setup before) lines

pub record StandsInOrder (setup : Setup) (entries : List Entry) (slots : ℕ) (epochs : List (List LineTold)) :
    Type 0 where
  pub waits : EachEpoch (WaitsAreLawful setup) no_events epochs
  pub order : entries ≡ entries_of (made_report slots epochs)

-- the sentence of a number
abbrev pub Sentence : Setup → ℕ → List (List Meaning) → List Entry → ℕ → Type 0
Sentence setup slots made entries (suc zero) = LinesAreAnswered made entries
Sentence setup slots made entries (suc (suc zero)) = EachEpoch AreNumbered no_events (told_epochs made entries)
Sentence setup slots made entries (suc (suc (suc zero))) =
    EachEpoch CountsAreLawful no_events (told_epochs made entries)
Sentence setup slots made entries (suc (suc (suc (suc zero)))) =
    EachEpoch AreOfTheGateway no_events (told_epochs made entries)
Sentence setup slots made entries (suc (suc (suc (suc (suc zero))))) =
    ChargesAre made entries (made_report slots (told_epochs made entries))
Sentence setup slots made entries (suc (suc (suc (suc (suc (suc zero)))))) =
    StandsInOrder setup entries slots (told_epochs made entries)
Sentence setup slots made entries _ = Unit {0}

-- the first sentence that is broken
pub record IsFirstBroken (setup : Setup) (slots : ℕ) (made : List (List Meaning)) (entries : List Entry) (k : ℕ) :
    Type 0 where
  pub before : (j : ℕ) → j < k → Sentence setup slots made entries j
  pub broken : ¬ Sentence setup slots made entries k
