-- What the schedule of an epoch says of its packets.
use Rattle.std.proofs.Common.{◌≡◌, ℕ, ◌+◌, ◌≤◌, Option, Some, None, List, [], ◌∷◌, ◌++◌, map, length, refl, sym, ap, subst, ◌∙◌, arith}
use Rattle.std.specs.List.{All, cons_option}
use Rattle.std.proofs.lemmas.List.{get_or-map, length-map}
use Rattle.std.proofs.lemmas.List.Elements.{All-map, All-weaker}
use Rattle.demux.specs.Trace.{Meaning}
use Rattle.gate_model.specs.Events.{packets_of}
use Rattle.report_lines.specs.declared.entry.LineEntry.{LineEntry}
use Rattle.lawful_run.specs.Accepted.{accepted_command, packets_accepted}
use Rattle.lawful_run.specs.Answers.{AnswersAll}
use Rattle.lawful_run.specs.Bounds.{count_before}
use Rattle.lawful_run.specs.LinesTold.{LineTold, lines_told}
use Rattle.lawful_run.specs.Merging.{Histories}
use Rattle.lawful_run.specs.Run.{no_events}
use Rattle.lawful_run.specs.Filling as fill
use Rattle.lawful_run.specs.Floors.{command_floor, command_floors, floor_for}
use Rattle.lawful_run.specs.Joined.{MeetsFloors, counts_met}
use Rattle.lawful_run.proofs.Fillings.{counts_told, packets_counted}
use Rattle.epoch_schedule.specs.Front.{Outcome}
use Rattle.epoch_schedule.specs.Schedule.{Driven, behind_line, outcomes}
use Rattle.epoch_schedule.specs.Slots.{Met}
use Rattle.epoch_schedule.specs.World.{Rooms, World, start}
use Rattle.epoch_schedule.specs.Lines.{driven_by}
use Rattle.epoch_drive.specs.Driven.{asks_of, driven, mets_driven, outcome_told}
use Rattle.epoch_drive.proofs.Forms.{all_answer, all_formed, all_tell}
use Rattle.epoch_drive.specs.DrivenOpened.{open_entries}
use Rattle.epoch_drive.proofs.Lawful.{length-counted}
use Rattle.epoch_drive.proofs.There.{counts_filled, mets_at, replies_at, slot_told}

-- lines with their turns
pub driven_so : (made : List Meaning) (turns : List (List ℕ)) → driven_by (map asks_of made) turns ≡ driven made turns
driven_so [] turns = refl
driven_so (m ∷ made) [] = ap (λ rest. record { asks = asks_of m; turns = [] } ∷ rest) (driven_so made [])
driven_so (m ∷ made) (first ∷ turns) = ap (λ rest. record { asks = asks_of m; turns = first } ∷ rest) (driven_so made turns)

length_outcomes : (rooms : Rooms) (bounds : ℕ → ℕ) (world : World) (made : List Meaning) (turns : List (List ℕ))
    → length (outcomes rooms bounds world (driven made turns)) ≡ length made
length_outcomes rooms bounds world [] turns = refl
length_outcomes rooms bounds world (m ∷ made) [] =
    let line : Driven = record { asks = asks_of m; turns = [] } in
    let rest = length_outcomes rooms bounds (behind_line rooms bounds world line) made [] in omega (arith, rest)
length_outcomes rooms bounds world (m ∷ made) (first ∷ turns) =
    let line : Driven = record { asks = asks_of m; turns = first } in
    let rest = length_outcomes rooms bounds (behind_line rooms bounds world line) made turns in omega (arith, rest)

pub length-outcomes : (rooms : Rooms) (bounds : ℕ → ℕ) (made : List Meaning) (turns : List (List ℕ))
    → length (outcomes rooms bounds start (driven made turns)) ≡ length made
length-outcomes rooms bounds made turns = length_outcomes rooms bounds start made turns

-- as many floors of commands as lines, at most
few_floor : (c : Option ℕ) (floors : List ℕ) (n : ℕ) → length floors ≤ n → length (cons_option c floors) ≤ n + 1
few_floor None floors n few = omega (arith, few)
few_floor (Some c) floors n few = omega (arith, few)

few_floors : (slot packets : ℕ) (before lines : List LineTold)
    → length (command_floors slot packets before lines) ≤ length lines
few_floors slot packets before [] = omega arith
few_floors slot packets before (now ∷ lines) =
    let here : length (command_floors slot packets before (now ∷ lines)) ≤ length lines + 1 =
    few_floor (floor_for (accepted_command slot now) (command_floor slot packets before))
    (command_floors slot packets (before ++ now ∷ []) lines) (length lines)
    (few_floors slot packets (before ++ now ∷ []) lines) in
    omega (arith, here)

module _ (rooms : Rooms) (bounds : ℕ → ℕ) (turns : List (List ℕ)) (first : ℕ) (before : Histories)
    (made : List Meaning) where
  abbrev pub outs : List Outcome
  outs = outcomes rooms bounds start (driven made turns)

  abbrev pub entries : List LineEntry
  entries = open_entries first made outs

  pub each : AnswersAll first made entries
  each = all_answer first made turns outs (all_formed rooms bounds start (driven made turns))

  pub tell : map outcome_told entries ≡ outs
  tell = all_tell first made turns outs (all_formed rooms bounds start (driven made turns))

  pub met_count : (slot : ℕ) → length (mets_at rooms bounds turns first before made entries slot)
      ≡ length (packets_accepted slot (lines_told made entries))
  met_count slot =
      let told = slot_told rooms bounds turns first before made entries each tell slot in
      sym (length-map (mets_at rooms bounds turns first before made entries slot) (λ (m : fill.Met). m.number))
      ∙ ap length told.packet_numbers
      ∙ length-counted (length (packets_of (before slot))) (length (packets_accepted slot (lines_told made entries)))

  -- the counts of what packets meet
  pub counts_at : (slot : ℕ) → counts_met (mets_at rooms bounds turns first before made entries slot)
      ≡ map (λ (m : Met). count_before before slot + m.commands) (mets_driven rooms bounds turns made slot)
  counts_at slot =
      sym (counts_told slot entries (replies_at rooms bounds turns first before made entries)
      (mets_at rooms bounds turns first before made entries)
      (met_count slot ∙ sym (packets_counted slot first made entries each)))
      ∙ counts_filled rooms bounds turns first before made entries each tell slot

  -- each packet that was taken meets something
  pub as_many : (slot : ℕ) → length (mets_driven rooms bounds turns made slot)
      ≡ length (packets_accepted slot (lines_told made entries))
  as_many slot =
      sym (length-map (mets_driven rooms bounds turns made slot)
      (λ (m : Met). count_before before slot + m.commands))
      ∙ ap length (sym (counts_at slot))
      ∙ length-map (mets_at rooms bounds turns first before made entries slot) (λ (m : fill.Met). m.commands)
      ∙ met_count slot

length-lines : (n : ℕ) (made : List Meaning) (outs : List Outcome)
    → length (lines_told made (open_entries n made outs)) ≤ length made
length-lines n [] outs = omega arith
length-lines n (m ∷ made) [] = omega arith
length-lines n (m ∷ made) (o ∷ outs) = let rest = length-lines (n + 1) made outs in omega (arith, rest)

unmapped : {X Y : Type 0} (P : Y → Type 0) (f : X → Y) (xs : List X) → All P (map f xs) → All (λ x. P (f x)) xs
unmapped P f xs all k d low =
    subst P (get_or-map f xs k d (f d) low) (all k (f d) (omega (arith, low, length-map xs f)))

-- no packet meets more commands than there are lines
pub few_met : (rooms : Rooms) (bounds : ℕ → ℕ) (turns : List (List ℕ)) (made : List Meaning) (slot : ℕ)
    → All (λ (m : Met). m.commands ≤ length made) (mets_driven rooms bounds turns made slot)
few_met rooms bounds turns made slot =
    let before : Histories = no_events in
    let es : List LineEntry = entries rooms bounds turns 0 before made in
    let told = slot_told rooms bounds turns 0 before made es (each rooms bounds turns 0 before made)
    (tell rooms bounds turns 0 before made) slot in
    let lines : List LineTold = lines_told made es in
    let floors = few_floors slot 0 [] lines in
    let short = length-lines 0 made (outs rooms bounds turns 0 before made) in
    let few : All (λ (m : fill.Met). m.commands ≤ length made) (mets_at rooms bounds turns 0 before made es slot) =
    All-weaker (MeetsFloors 0 (command_floors slot 0 [] lines)) (λ (m : fill.Met). m.commands ≤ length made)
    (λ m meets. omega (arith, meets.0, floors, short)) (mets_at rooms bounds turns 0 before made es slot) told.most in
    let counts : All (λ k. k ≤ length made) (counts_met (mets_at rooms bounds turns 0 before made es slot)) =
    All-map (λ k. k ≤ length made) (λ (m : fill.Met). m.commands) (mets_at rooms bounds turns 0 before made es slot)
    few in
    All-weaker (λ (m : Met). 0 + m.commands ≤ length made) (λ (m : Met). m.commands ≤ length made)
    (λ m low. omega (arith, low)) (mets_driven rooms bounds turns made slot)
    (unmapped (λ k. k ≤ length made) (λ (m : Met). 0 + m.commands) (mets_driven rooms bounds turns made slot)
    (subst (All (λ k. k ≤ length made)) (counts_at rooms bounds turns 0 before made slot) counts))
