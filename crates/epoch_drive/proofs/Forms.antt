-- Which outcomes a schedule gives, and what open entries of them tell.
use Rattle.std.proofs.Common.{◌≡◌, ℕ, ◌+◌, ◌-◌, Bool, true, false, nat_lt, List, [], ◌∷◌, ◌++◌, map, length, refl, sym, true≢false}
use Rattle.control_steps.specs.declared.command.CommandKind.{CommandKind}
use Rattle.demux.specs.Trace.{Meaning, command, packet, move, note}
use Rattle.demux.specs.declared.packet.LentPacket.{LentPacket}
use Rattle.report_lines.specs.Records.{PacketTold}
use Rattle.report_lines.specs.declared.entry.LineEntry.{LineEntry}
use Rattle.report_lines.specs.declared.entry.LineEntry.TheVariants as line
use Rattle.lawful_run.specs.Answers.{Answers, AnswersAll}
use Rattle.lawful_run.specs.Filling.{Met, Replies, Mets, judged_with, fill, filled, replied_slot, met_slot, others_of}
use Rattle.epoch_schedule.specs.Front as ask
use Rattle.epoch_schedule.specs.Schedule.{Driven, behind_line, outcomes}
use Rattle.epoch_schedule.specs.Slots.{Standing, absent, front, placed, recalled, leaving}
use Rattle.epoch_schedule.specs.World.{World, Rooms, item, has_room, slot_at, on_slot, data_at, on_data}
use Rattle.epoch_schedule.proofs.Keeping.{cond_keeps}
use Rattle.lawful_run.specs.Opened.{open_command, open_packet}
use Rattle.epoch_drive.specs.Driven.{asks_of, driven, outcome_told}
use Rattle.epoch_drive.specs.DrivenOpened.{open_entries, open_entry}

abbrev pub done_plainly : ask.Outcome
done_plainly = record { taken = true; parked = false }

-- what a line may become: only packets are parked, and none that is refused
abbrev pub IsFormed : ask.Asks → ask.Outcome → Type 0
IsFormed ask.nothing outcome = outcome ≡ done_plainly
IsFormed (ask.command slot) outcome = outcome.parked ≡ false
IsFormed (ask.packet slot) outcome = outcome.taken ≡ false → outcome.parked ≡ false
IsFormed (ask.move slot slice) outcome = outcome ≡ done_plainly

abbrev pub PacketFormed : ask.Done → Type 0
PacketFormed done = done.outcome.taken ≡ false → done.outcome.parked ≡ false

send_formed : (rooms : Rooms) (world : World) (s : ℕ) (standing : Standing)
    → PacketFormed (ask.send_packet_at rooms world s standing)
send_formed rooms world s absent = λ no. refl
send_formed rooms world s front = λ no. refl
send_formed rooms world s (placed slice) =
    cond_keeps PacketFormed (has_room rooms.lane (data_at world slice).orders)
    (ask.accepted (on_slot (on_data world slice (λ worker. record worker { orders = worker.orders ++ item s ∷ [] })) s
    ask.with_packet)) (ask.refused world) (λ no. refl) (λ no. refl)
send_formed rooms world s (recalled slice until) = λ no. refl
send_formed rooms world s leaving = λ no. refl

line_formed : (rooms : Rooms) (bounds : ℕ → ℕ) (world : World) (asks : ask.Asks)
    → IsFormed asks (ask.line_done rooms bounds world asks).outcome
line_formed rooms bounds world ask.nothing = refl
line_formed rooms bounds world (ask.command s) =
    let ready = ask.admitted rooms bounds world s in
    cond_keeps (λ (done : ask.Done). done.outcome.parked ≡ false)
    (nat_lt (length (slot_at ready s).commands - (slot_at ready s).taken) rooms.room)
    (ask.accepted (on_slot ready s ask.with_command)) (ask.refused ready) refl refl
line_formed rooms bounds world (ask.packet s) =
    let ready = ask.admitted rooms bounds world s in
    let arrived = ask.arrived_first rooms bounds ready s in
    cond_keeps PacketFormed (ask.parks (slot_at ready s)) (ask.park_packet rooms ready s)
    (ask.send_packet rooms arrived s)
    (cond_keeps PacketFormed (nat_lt (slot_at ready s).queued rooms.room)
    (ask.parked_at (on_slot ready s (λ slot. record (ask.with_packet slot) { queued = slot.queued + 1 })))
    (ask.refused ready) (λ no. absurd (true≢false no)) (λ no. refl))
    (send_formed rooms arrived s (slot_at arrived s).data_half)
line_formed rooms bounds world (ask.move s slice) = refl

abbrev pub AreFormed : List Driven → List ask.Outcome → Type 0
AreFormed [] [] = Unit {0}
AreFormed [] (outcome ∷ others) = ⊥
AreFormed (line ∷ lines) [] = ⊥
AreFormed (line ∷ lines) (outcome ∷ others) = IsFormed line.asks outcome × AreFormed lines others

pub all_formed : (rooms : Rooms) (bounds : ℕ → ℕ) (world : World) (lines : List Driven)
    → AreFormed lines (outcomes rooms bounds world lines)
all_formed rooms bounds world [] = tt
all_formed rooms bounds world (line ∷ lines) = (
  line_formed rooms bounds (ask.pumped rooms bounds world) line.asks,
  all_formed rooms bounds (behind_line rooms bounds world line) lines,
)

-- each answers its line, and tells its outcome
command_answers : (n slot : ℕ) (c : CommandKind) (taken : Bool) → Answers n (command slot c) (open_command n slot taken)
command_answers n slot c true = (refl, refl)
command_answers n slot c false = refl

packet_answers : (n slot : ℕ) (p : LentPacket) (taken parked : Bool)
    → Answers n (packet slot p) (open_packet n slot taken parked)
packet_answers n slot p true parked = (refl, refl)
packet_answers n slot p false parked = refl

open_answers : (n : ℕ) (now : Meaning) (outcome : ask.Outcome) → Answers n now (open_entry n now outcome)
open_answers n (note text) outcome = refl
open_answers n (move slot slice text) outcome = refl
open_answers n (command slot c) outcome = command_answers n slot c outcome.taken
open_answers n (packet slot p) outcome = packet_answers n slot p outcome.taken outcome.parked

command_tells : (n slot : ℕ) (taken parked : Bool) → parked ≡ false
    → outcome_told (open_command n slot taken) ≡ record { taken = taken; parked = parked }
command_tells n slot true parked stays = λ i. record { taken = true; parked = sym stays i }
command_tells n slot false parked stays = λ i. record { taken = false; parked = sym stays i }

packet_tells : (n slot : ℕ) (taken parked : Bool) → (taken ≡ false → parked ≡ false)
    → outcome_told (open_packet n slot taken parked) ≡ record { taken = taken; parked = parked }
packet_tells n slot true parked stays = refl
packet_tells n slot false parked stays = λ i. record { taken = false; parked = sym (stays refl) i }

open_tells : (n : ℕ) (now : Meaning) (outcome : ask.Outcome) → IsFormed (asks_of now) outcome
    → outcome_told (open_entry n now outcome) ≡ outcome
open_tells n (note text) outcome formed = sym formed
open_tells n (move slot slice text) outcome formed = sym formed
open_tells n (command slot c) outcome formed = command_tells n slot outcome.taken outcome.parked formed
open_tells n (packet slot p) outcome formed = packet_tells n slot outcome.taken outcome.parked formed

pub all_answer : (n : ℕ) (made : List Meaning) (turns : List (List ℕ)) (outs : List ask.Outcome)
    → AreFormed (driven made turns) outs → AnswersAll n made (open_entries n made outs)
all_answer n [] turns outs formed = tt
all_answer n (now ∷ made) [] [] formed = absurd formed
all_answer n (now ∷ made) (first ∷ turns) [] formed = absurd formed
all_answer n (now ∷ made) [] (outcome ∷ outs) formed =
    (open_answers n now outcome, all_answer (n + 1) made [] outs formed.1)
all_answer n (now ∷ made) (first ∷ turns) (outcome ∷ outs) formed =
    (open_answers n now outcome, all_answer (n + 1) made turns outs formed.1)

pub all_tell : (n : ℕ) (made : List Meaning) (turns : List (List ℕ)) (outs : List ask.Outcome)
    → AreFormed (driven made turns) outs → map outcome_told (open_entries n made outs) ≡ outs
all_tell n [] turns [] formed = refl
all_tell n [] turns (outcome ∷ outs) formed = absurd formed
all_tell n (now ∷ made) [] [] formed = absurd formed
all_tell n (now ∷ made) (first ∷ turns) [] formed = absurd formed
all_tell n (now ∷ made) [] (outcome ∷ outs) formed =
    let here = open_tells n now outcome formed.0 in
    let rest = all_tell (n + 1) made [] outs formed.1 in
    λ i. here i ∷ rest i
all_tell n (now ∷ made) (first ∷ turns) (outcome ∷ outs) formed =
    let here = open_tells n now outcome formed.0 in
    let rest = all_tell (n + 1) made turns outs formed.1 in
    λ i. here i ∷ rest i

-- filled entries tell the same outcomes
judged_tells : (judged : PacketTold) (mets : List Met)
    → outcome_told (line.P (judged_with judged mets)) ≡ outcome_told (line.P judged)
judged_tells judged [] = refl
judged_tells judged (first ∷ others) = refl

fill_tells : (entry : LineEntry) (replies : Replies) (mets : Mets)
    → outcome_told (fill entry replies mets) ≡ outcome_told entry
fill_tells (line.N noted) replies mets = refl
fill_tells (line.C answered) replies mets = refl
fill_tells (line.P judged) replies mets = judged_tells judged (mets judged.slot)
fill_tells (line.F refused) replies mets = refl

pub filled_tell : (entries : List LineEntry) (replies : Replies) (mets : Mets)
    → map outcome_told (filled entries replies mets) ≡ map outcome_told entries
filled_tell [] replies mets = refl
filled_tell (entry ∷ entries) replies mets =
    let here = fill_tells entry replies mets in
    let rest = filled_tell entries (others_of (replied_slot entry) replies) (others_of (met_slot entry) mets) in
    λ i. here i ∷ rest i
