-- A gateway by what its subscribers hold, whichever lines left them so.
use Rattle.std.specs.Prelude.{◌≡◌, ℕ, ◌+◌, ◌<◌, ◌≤◌, ◌^◌, ◌==◌, false, List, [], ◌∷◌, ◌++◌, length, map, filter}
use Rattle.std.specs.Prelude.{flat_map, IfSome}
use Rattle.trace_lines.specs.Line.{Line}
use Rattle.demux.specs.declared.decision.Decision.{Decision}
use Rattle.report_lines.specs.Records.{Effected}
use Rattle.report_lines.specs.declared.entry.Entry.TheVariants as entry
use Rattle.subscriber.specs.Standing.{SubscriberState, commands_met, last_of}
use Rattle.lawful_run.specs.Report.{EpochReport, epoch_entries, texts_of}
use Rattle.trace_run.specs.Entries as texts
use Rattle.solo_command.specs.Gateway.{AnswersAs, AnswersLines, Gateway, Told}
use Rattle.solo_command.specs.Reports.{AnswersAll, is_of, told_epoch}
use Rattle.solo_command.specs.declared.gathered.Gathered.{Gathered}
use Rattle.solo_command.specs.declared.solo.Solo.{Solo}
use Rattle.solo_command.specs.Entries.{text_line}
use Rattle.solo_command.specs.Gathering.{CausedBelow, ClosedBelow, effects_for, rows_for}
use Rattle.solo_command.specs.Report.{slices}

-- its book, and what its subscribers hold
abbrev pub gateway_of : Solo → Gateway
gateway_of solo = record { book = solo.book; subscribers = solo.subscribers.items }

-- A subscriber of a slot, behind so many lines that may have followed a state file: its counts are no higher than that
-- allows, and none of its packets came later than this moment.
pub record IsWithin (lines latest slot : ℕ) (one : SubscriberState) : Type 0 where
  pub slot_is : one.session.slot ≡ slot
  pub rates : one.session.rates < 2 ^ 50 + lines
  pub lives : one.session.lives < 2 ^ 50 + lines
  pub few : commands_met one + one.packets < 2 ^ 51 + lines
  pub in_order : IfSome (last_of one) (λ last. last ≤ latest)

abbrev pub AreWithin : (lines latest slot : ℕ) → List SubscriberState → Type 0
AreWithin lines latest slot [] = Unit {0}
AreWithin lines latest slot (one ∷ others) =
    IsWithin lines latest slot one × AreWithin lines latest (slot + 1) others

-- a gateway has such a subscriber for each slot of its book
pub record Holds (lines latest : ℕ) (gateway : Gateway) : Type 0 where
  pub places : length gateway.subscribers ≡ length gateway.book
  pub each : AreWithin lines latest 0 gateway.subscribers

-- so few lines that each count may rise · no packet came later than this moment
pub record HasRoom (solo : Solo) : Type 0 where
  pub lines : ℕ
  pub latest : ℕ
  pub holds : Holds lines latest (gateway_of solo)
  pub few : lines < 2 ^ 40

pub record IsLate (solo : Solo) (moment : ℕ) : Type 0 where
  pub lines : ℕ
  pub latest : ℕ
  pub holds : Holds lines latest (gateway_of solo)
  pub late : latest ≤ moment

-- what waits for the end of an epoch, of slots below so many, is by slot what was told of its lines
pub record Waits (gathered : Gathered) (slots : ℕ) (open_ : List Told) : Type 0 where
  pub effects : (slot : ℕ) → effects_for slot gathered.effects.items
      ≡ filter (λ (effected : Effected). effected.slot == slot) (flat_map (λ (one : Told). one.effects) open_)
  pub rows : (slot : ℕ) → rows_for slot gathered.rows.items
      ≡ filter (is_of slot) (flat_map (λ (one : Told). one.rows) open_)
  pub effects_below : CausedBelow slots gathered.effects.items
  pub rows_below : ClosedBelow slots gathered.rows.items

-- A line of this number, of which this was decided, is answered by what the gateway holds: its entry is told, and the
-- rest of it waits.
pub record Tells (number : ℕ) (made : Decision) (old new : Solo) (text next : List ℕ) : Type 0 where
  pub told : Told
  pub answers : AnswersAs slices number made (gateway_of old) told (gateway_of new)
  pub written : next ≡ text ++ text_line (entry.Line told.entry)
  pub waits : (open_ : List Told) → Waits old.gathered (length old.book) open_
      → Waits new.gathered (length new.book) (open_ ++ told ∷ [])

-- the entries of lines as text · what an epoch has behind them
abbrev pub told_text : List Told → List ℕ
told_text told = texts.lines_text false (map (λ (one : Told). one.entry) told)

abbrev pub told_closing : (slots : ℕ) → List Told → List ℕ
told_closing slots told = texts.closing_text false (told_epoch slots told)

-- A gateway answered lines, by what it held first: the former text is that of whole epochs, and the entries of the open
-- one's lines wait. They were so many lines at most, the last of which has this moment.
pub record HasTold (first : Gateway) (gateway : Solo) (lines latest : ℕ) (closed : List (List Line))
    (open_ : List Line) (sent waiting : List ℕ) : Type 0 where
  pub between : Gateway
  pub reports : List EpochReport
  pub told : List Told
  pub whole : AnswersAll slices closed first reports between
  pub answers : AnswersLines slices open_ between told (gateway_of gateway)
  pub said : sent ≡ texts_of false (flat_map epoch_entries reports)
  pub waits : waiting ≡ told_text told
  pub gathered : Waits gateway.gathered (length gateway.book) told
  pub holds : Holds lines latest (gateway_of gateway)
