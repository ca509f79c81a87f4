-- The lawful run: which entries a trace may have.
use Rattle.std.specs.Prelude.{◌≡◌, ℕ, ◌+◌, List, [], ◌∷◌, length, filter_map, flat_map}
use Rattle.demux.specs.Trace.{Meaning}
use Rattle.gate_model.specs.Events.{commands_of, packets_of}
use Rattle.gate_model.specs.declared.event.Event.{Event}
use Rattle.lawful_run.specs.Accepted.{commands_accepted, packets_accepted}
use Rattle.lawful_run.specs.Answers.{AnswersAll}
use Rattle.lawful_run.specs.Bounds.{MeetsBounds, Rises, count_before}
use Rattle.lawful_run.specs.Setup.{Setup}
use Rattle.lawful_run.specs.LinesTold.{LineTold, lines_told, EachLine}
use Rattle.lawful_run.specs.Merging.{Histories, events_in, behind}
use Rattle.lawful_run.specs.Outcomes as made_of
use Rattle.lawful_run.specs.Parking.{ParkedBehindMoves}
use Rattle.lawful_run.specs.Refusals.{RefusedWhereFull}
use Rattle.lawful_run.specs.Report.{EpochReport, Report}
use Rattle.lawful_run.specs.Telling.{command_number, packet_number, commands_told, reply_told, verdict_told, counted}

-- what each slot has, by slot
abbrev pub by_slot : {X : Type 0} → ℕ → (ℕ → List X) → List X
by_slot slots has = flat_map has (counted 0 slots)

-- the lines of an epoch with their entries
abbrev pub told_in : List Meaning → EpochReport → List LineTold
told_in made told = lines_told made told.lines

-- the events of a slot in an epoch, behind those of each slot before it
abbrev pub events_now : Histories → List Meaning → EpochReport → ℕ → List Event
events_now before made told slot = events_in (before slot) (told_in made told) slot

-- Which entries an epoch may have: by the setup, the number of its first line, the events of each
-- slot before it, and what
-- its lines mean. Behind it as many slots are known.
pub record IsEpochRun (setup : Setup) (slots first : ℕ) (before : Histories) (made : List Meaning)
    (told : EpochReport) : Type 0 where
  -- each line has one entry, in line order and in the line's words
  pub one_each : AnswersAll first made told.lines
  -- the commands of a slot are numbered on in line order
  pub command_numbers : (slot : ℕ) → filter_map (command_number slot) told.lines
      ≡ counted (length (commands_of (before slot))) (length (commands_accepted slot (told_in made told)))
  -- and its packets
  pub packet_numbers : (slot : ℕ) → filter_map (packet_number slot) told.lines
      ≡ counted (length (packets_of (before slot))) (length (packets_accepted slot (told_in made told)))
  -- the prefix of its commands that a packet meets never shrinks
  pub counts_rise : (slot : ℕ) → Rises (count_before before slot) (filter_map (commands_told slot) told.lines)
  -- and it lies between the packet's bounds
  pub bounds : EachLine (MeetsBounds setup before) (told_in made told)
  -- replies are those of the one-thread gateway on the slot's events, in the order that the prefixes tell
  pub replies : (slot : ℕ) → filter_map (reply_told slot) told.lines
      ≡ made_of.replies slot (before slot) (events_now before made told slot)
  -- and verdicts with their octets
  pub verdicts : (slot : ℕ) → filter_map (verdict_told slot) told.lines
      ≡ made_of.verdicts slot (before slot) (events_now before made told slot)
  -- effects are those of the epoch's commands, by slot, each with its command's number
  pub effects : told.effects ≡ by_slot slots (λ slot.
      made_of.effects slot (before slot) (events_now before made told slot))
  -- charging records are those that the epoch's events make, by slot
  pub rows : told.rows ≡ by_slot slots (λ slot. made_of.rows slot (before slot) (events_now before made told slot))
  -- a line is refused only where its queue or lane could be full
  pub refusals : EachLine (RefusedWhereFull setup) (told_in made told)
  -- a packet is parked only behind a move of its slot, and before the packets that aren't
  pub parking : EachLine ParkedBehindMoves (told_in made told)

-- epoch after epoch, each behind the events of those before it
abbrev pub AreEpochRuns : Setup → ℕ → ℕ → Histories → List (List Meaning) → List EpochReport → Type 0
AreEpochRuns setup slots first before [] [] = Unit {0}
AreEpochRuns setup slots first before [] (told ∷ others) = ⊥
AreEpochRuns setup slots first before (made ∷ epochs) [] = ⊥
AreEpochRuns setup slots first before (made ∷ epochs) (told ∷ others) =
    IsEpochRun setup slots first before made told
    × AreEpochRuns setup slots (first + length made) (behind before (told_in made told)) epochs others

-- the events of each slot in all epochs
abbrev pub behind_all : Histories → List (List Meaning) → List EpochReport → Histories
behind_all before [] others = before
behind_all before (made ∷ epochs) [] = before
behind_all before (made ∷ epochs) (told ∷ others) = behind_all (behind before (told_in made told)) epochs others

abbrev pub no_events : Histories
no_events slot = []

-- Which entries a trace may have, by the setup, the number of slots in the book behind it, and what the lines of its
-- epochs mean.
pub record IsRun (setup : Setup) (slots : ℕ) (made : List (List Meaning)) (report : Report) : Type 0 where
  -- lines count from 1, and each slot begins without events
  pub epochs : AreEpochRuns setup slots 1 no_events made report.epochs
  -- the open counters are those behind all events, by slot
  pub opens : report.opens ≡ by_slot slots (λ slot. made_of.opens slot (behind_all no_events made report.epochs slot))
