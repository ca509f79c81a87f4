-- Which entries an epoch has under a schedule: those of the lawful run, with the choices that it leaves made as the
-- schedule says.
use Rattle.std.specs.Prelude.{◌≡◌, ℕ, ◌+◌, ◌==◌, true, false, if◌then◌else◌, Option, Some, None, List, [], ◌∷◌, length}
use Rattle.std.specs.Prelude.{map, filter_map}
use Rattle.demux.specs.Trace.{Meaning, command, packet, move, note}
use Rattle.gate_model.specs.Events.{commands_of, packets_of}
use Rattle.pc_base.specs.declared.packet.Place.{Place}
use Rattle.report_lines.specs.declared.entry.LineEntry.{LineEntry}
use Rattle.report_lines.specs.declared.entry.LineEntry.TheVariants as line
use Rattle.lawful_run.specs.Accepted.{commands_accepted, packets_accepted}
use Rattle.lawful_run.specs.Answers.{AnswersAll}
use Rattle.lawful_run.specs.Bounds.{count_before}
use Rattle.lawful_run.specs.Setup.{sliced}
use Rattle.lawful_run.specs.Merging.{Histories}
use Rattle.lawful_run.specs.Outcomes as made_of
use Rattle.lawful_run.specs.Report.{EpochReport}
use Rattle.lawful_run.specs.Run.{told_in, events_now, by_slot, IsEpochRun}
use Rattle.lawful_run.specs.Telling.{command_number, packet_number, commands_told, reply_told, verdict_told, counted}
use Rattle.epoch_schedule.specs.Front as ask
use Rattle.epoch_schedule.specs.Schedule.{Driven, outcomes, mets}
use Rattle.epoch_schedule.specs.Slots.{Met}
use Rattle.epoch_schedule.specs.World.{Rooms, start}

-- a schedule looks at slots and slices alone
abbrev pub asks_of : Meaning → ask.Asks
asks_of (command slot c) = ask.command slot
asks_of (packet slot p) = ask.packet slot
asks_of (move slot slice text) = ask.move slot slice
asks_of (note text) = ask.nothing

-- each line with the turns behind it, none where none are told
abbrev pub driven : List Meaning → List (List ℕ) → List Driven
driven [] turns = []
driven (now ∷ made) [] = record { asks = asks_of now; turns = [] } ∷ driven made []
driven (now ∷ made) (first ∷ turns) = record { asks = asks_of now; turns = first } ∷ driven made turns

-- what an entry says of the schedule: whether its line was taken, and whether its packet was parked
abbrev pub outcome_told : LineEntry → ask.Outcome
outcome_told (line.N noted) = record { taken = true; parked = false }
outcome_told (line.C answered) = record { taken = true; parked = false }
outcome_told (line.P judged) = record { taken = true; parked = judged.parked }
outcome_told (line.F refused) = record { taken = false; parked = false }

-- and where the packet of a slot was handled
abbrev pub place_told : ℕ → LineEntry → Option (Option Place)
place_told slot (line.N noted) = None
place_told slot (line.C answered) = None
place_told slot (line.P judged) = if judged.slot == slot then Some judged.place else None
place_told slot (line.F refused) = None

-- what the packets of a slot meet under the schedule
abbrev pub mets_driven : Rooms → (ℕ → ℕ) → List (List ℕ) → List Meaning → ℕ → List Met
mets_driven rooms bounds turns made slot = mets rooms bounds (driven made turns) slot

-- Which entries an epoch has: by the rooms, where each slot is bound for as the epoch begins, the turns behind each
-- line, the number of its first line, the events of each slot before it, and what its lines mean.
pub record IsDriven (rooms : Rooms) (bounds : ℕ → ℕ) (turns : List (List ℕ)) (slots first : ℕ) (before : Histories)
    (made : List Meaning) (told : EpochReport) : Type 0 where
  -- as in a lawful run: each line has one entry, numbers go on, replies, verdicts, effects and charging records are
  -- those of the one-thread gateway on each slot's events
  pub one_each : AnswersAll first made told.lines
  pub command_numbers : (slot : ℕ) → filter_map (command_number slot) told.lines
      ≡ counted (length (commands_of (before slot))) (length (commands_accepted slot (told_in made told)))
  pub packet_numbers : (slot : ℕ) → filter_map (packet_number slot) told.lines
      ≡ counted (length (packets_of (before slot))) (length (packets_accepted slot (told_in made told)))
  pub replies : (slot : ℕ) → filter_map (reply_told slot) told.lines
      ≡ made_of.replies slot (before slot) (events_now before made told slot)
  pub verdicts : (slot : ℕ) → filter_map (verdict_told slot) told.lines
      ≡ made_of.verdicts slot (before slot) (events_now before made told slot)
  pub effects : told.effects ≡ by_slot slots (λ slot.
      made_of.effects slot (before slot) (events_now before made told slot))
  pub rows : told.rows ≡ by_slot slots (λ slot. made_of.rows slot (before slot) (events_now before made told slot))
  -- as the schedule says: which lines are refused, and which packets are parked
  pub outcomes_are : map outcome_told told.lines ≡ outcomes rooms bounds start (driven made turns)
  -- how many commands of its slot each packet meets
  pub counts : (slot : ℕ) → filter_map (commands_told slot) told.lines
      ≡ map (λ (m : Met). count_before before slot + m.commands) (mets_driven rooms bounds turns made slot)
  -- and where it is handled
  pub places : (slot : ℕ) → filter_map (place_told slot) told.lines
      ≡ map (λ (m : Met). Some m.place) (mets_driven rooms bounds turns made slot)

-- two driven epochs of one schedule are equal
abbrev pub OneIsDriven : Type 0
OneIsDriven = (rooms : Rooms) (bounds : ℕ → ℕ) (turns : List (List ℕ)) (slots first : ℕ) (before : Histories)
    (made : List Meaning) (one other : EpochReport)
    → IsDriven rooms bounds turns slots first before made one
    → IsDriven rooms bounds turns slots first before made other
    → one ≡ other

-- A driven epoch is a lawful one.
abbrev pub DrivenEpochsAreLawful : Type 0
DrivenEpochsAreLawful = (slices room lane : ℕ) (bounds : ℕ → ℕ) (turns : List (List ℕ)) (slots first : ℕ)
    (before : Histories) (made : List Meaning) (told : EpochReport)
    → IsDriven (record { room = room; lane = lane }) bounds turns slots first before made told
    → IsEpochRun (sliced slices room lane) slots first before made told

-- and each schedule has one
abbrev pub EachScheduleIsDriven : Type 0
EachScheduleIsDriven = (rooms : Rooms) (bounds : ℕ → ℕ) (turns : List (List ℕ)) (slots first : ℕ) (before : Histories)
    (made : List Meaning) → (told : EpochReport) × IsDriven rooms bounds turns slots first before made told
