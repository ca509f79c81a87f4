-- The pieces of all slots are a lawful epoch.
use Rattle.std.specs.Prelude.{◌≡◌, ℕ, ◌+◌, ◌-◌, ◌≤◌, List, [], ◌∷◌, ◌++◌, length, map, take, All}
use Rattle.std.specs.List.{AllZip}
use Rattle.demux.specs.Trace.{Meaning}
use Rattle.gate_model.specs.Events.{commands_of, packets_of}
use Rattle.gate_model.specs.declared.event.Event.{Event}
use Rattle.report_lines.specs.declared.entry.LineEntry.{LineEntry}
use Rattle.lawful_run.specs.Accepted.{Placed, commands_accepted, packets_accepted, command_count}
use Rattle.lawful_run.specs.Answers.{AnswersAll}
use Rattle.lawful_run.specs.Bounds.{Rises}
use Rattle.lawful_run.specs.Setup.{sliced}
use Rattle.lawful_run.specs.LinesTold.{LineTold, lines_told, EachLine}
use Rattle.lawful_run.specs.Merging.{Histories, merged, behind}
use Rattle.lawful_run.specs.Outcomes as made_of
use Rattle.lawful_run.specs.Parking.{ParkedBehindMoves}
use Rattle.lawful_run.specs.Refusals.{RefusedWhereFull}
use Rattle.lawful_run.specs.Report.{EpochReport}
use Rattle.lawful_run.specs.Run.{told_in, by_slot, IsEpochRun}
use Rattle.lawful_run.specs.Telling.{counted}
use Rattle.lawful_run.specs.Filling.{Replied, Met, Replies, Mets, filled}
use Rattle.lawful_run.specs.Floors.{command_floors, packet_floors}

-- packets of open entries, with the counts of commands that stand before them
abbrev pub with_counts : List ℕ → List Placed → List Placed
with_counts [] packets = packets
with_counts (count ∷ counts) [] = []
with_counts (count ∷ counts) (first ∷ packets) =
    record { commands = count; packet = first.packet } ∷ with_counts counts packets

abbrev pub counts_met : List Met → List ℕ
counts_met mets = map (λ (met : Met). met.commands) mets

-- the events of a slot in an epoch, behind those before, in the order that the counts tell
abbrev pub events_met : ℕ → List Event → List LineTold → List Met → List Event
events_met slot before taken mets =
    merged (length (commands_of before)) (length (packets_of before)) (commands_accepted slot taken)
    (with_counts (counts_met mets) (packets_accepted slot taken))

-- A packet meets no more commands than there are, and each that it meets waits for no packet that isn't before it. The
-- first of the commands has this number.
abbrev pub MeetsFloors : ℕ → List ℕ → Met → Type 0
MeetsFloors first floors met =
    (met.commands ≤ first + length floors) × All (λ floor. floor ≤ met.number) (take (met.commands - first) floors)

-- What is told of a slot in an epoch is right: by its number, its events before, the lines with their open entries, and
-- what became of its commands and packets.
pub record SlotTold (slot : ℕ) (before : List Event) (taken : List LineTold) (replied : List Replied)
    (mets : List Met) : Type 0 where
  -- commands and packets are numbered on in line order, one for each that was accepted
  pub numbers : map (λ (r : Replied). r.number) replied
      ≡ counted (length (commands_of before)) (command_count slot taken)
  pub packet_numbers : map (λ (met : Met). met.number) mets
      ≡ counted (length (packets_of before)) (length (packets_accepted slot taken))
  -- counts don't fall
  pub rises : Rises (length (commands_of before)) (counts_met mets)
  -- each is at least the packet's floor
  pub least : AllZip (λ floor (met : Met). floor ≤ met.commands)
      (packet_floors slot (length (commands_of before)) [] taken) mets
  -- and each command before the packet may stand there
  pub most : All (MeetsFloors (length (commands_of before)) (command_floors slot (length (packets_of before)) [] taken))
      mets
  -- replies and verdicts are those of the one-thread gateway on the slot's events
  pub replies : map (λ (r : Replied). r.reply) replied
      ≡ made_of.replies slot before (events_met slot before taken mets)
  pub verdicts : map (λ (met : Met). met.verdict) mets
      ≡ made_of.verdicts slot before (events_met slot before taken mets)

-- the events of each slot in an epoch
abbrev pub events_joined : Histories → List Meaning → List LineEntry → Mets → ℕ → List Event
events_joined before made entries mets slot =
    events_met slot (before slot) (lines_told made entries) (mets slot)

-- the report of an epoch: its filled entries, and the effects and charging records by slot
abbrev pub epoch_of : ℕ → Histories → List Meaning → List LineEntry → Replies → Mets → EpochReport
epoch_of slots before made entries replies mets = record {
  lines = filled entries replies mets;
  effects = by_slot slots (λ slot.
      made_of.effects slot (before slot) (events_joined before made entries mets slot));
  rows = by_slot slots (λ slot. made_of.rows slot (before slot) (events_joined before made entries mets slot));
}

-- Where each line has its open entry, refusals and parking are lawful, and what is told of each slot is right, the
-- report is a lawful epoch, and the events behind it are those that were joined.
abbrev pub PiecesAreAnEpoch : Type 0
PiecesAreAnEpoch = (slices room lane slots first : ℕ) (before : Histories) (made : List Meaning)
    (entries : List LineEntry) (replies : Replies) (mets : Mets)
    → AnswersAll first made entries
    → EachLine (RefusedWhereFull (sliced slices room lane)) (lines_told made entries)
    → EachLine ParkedBehindMoves (lines_told made entries)
    → ((slot : ℕ) → SlotTold slot (before slot) (lines_told made entries) (replies slot) (mets slot))
    → IsEpochRun (sliced slices room lane) slots first before made (epoch_of slots before made entries replies mets)
    × ((slot : ℕ) → behind before (told_in made (epoch_of slots before made entries replies mets)) slot
    ≡ before slot ++ events_joined before made entries mets slot)
