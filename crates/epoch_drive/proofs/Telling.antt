-- What a schedule says of a slot's lines is what their entries tell of it.
use Rattle.std.proofs.Common.{◌≡◌, ℕ, ◌+◌, ◌<◌, ◌==◌, ◌||◌, ◌⊎◌, Bool, true, false, Some, None, List, [], ◌∷◌, ◌++◌, length, cond, refl, sym, ap, subst, ◌∙◌, arith, inl, inr, true≢false}
use Rattle.std.specs.Bool.{IsTrue}
use Rattle.std.specs.List.{filter_map, cons_option, list_any, count_by}
use Rattle.std.proofs.lemmas.Bool.{and_parts, or_left, or_right, eqb-true}
use Rattle.std.proofs.lemmas.List.Elements.{All-append, All-from_recursion, filter_map-append}
use Rattle.std.proofs.lemmas.List.Folds.{list_any-append}
use Rattle.std.proofs.lemmas.List.Sums.{sum_by-append}
use Rattle.control_steps.specs.declared.command.CommandKind.{CommandKind}
use Rattle.demux.specs.Trace.{Meaning, command, packet, move, note}
use Rattle.report_lines.specs.declared.entry.LineEntry.{LineEntry}
use Rattle.report_lines.specs.declared.entry.LineEntry.TheVariants as line
use Rattle.lawful_run.specs.Accepted.{Placed, accepted_command, accepted_packet, packets_accepted, command_count}
use Rattle.lawful_run.specs.Answers.{Answers}
use Rattle.lawful_run.specs.LinesTold.{LineTold}
use Rattle.lawful_run.specs.Moves.{moves, is_moved, behind_last_move}
use Rattle.lawful_run.specs.Parking.{parked_told}
use Rattle.lawful_run.specs.Refusals.{slot_of}
use Rattle.lawful_run.proofs.SlotCases.{eqb_same}
use Rattle.lawful_run.proofs.Bounding.{map_some}
use Rattle.lawful_run.proofs.Ceilings.{is_moved-behind, packets_accepted-append, command_count-append}
use Rattle.lawful_run.proofs.Fillings.{answer_cases}
use Rattle.epoch_schedule.specs.Front.{Outcome}
use Rattle.epoch_schedule.specs.Tallies.{Tally, with_command_line, with_packet_line, with_move, tally_after}
use Rattle.epoch_drive.specs.Driven.{asks_of, outcome_told}
use Rattle.lawful_run.specs.Marks.{AllParked, marks_since}
use Rattle.lawful_run.proofs.LastMoves.{is_moved-last, since-move, since-other}

-- how many lines move a slot
abbrev pub move_times : ℕ → List LineTold → ℕ
move_times slot lines = count_by (moves slot) lines

-- what the lines before tell of a slot
pub record IsTally (slot : ℕ) (prefix : List LineTold) (tally : Tally) : Type 0 where
  pub seen : tally.seen ≡ true → list_any (λ own. own == slot) (filter_map slot_of prefix) ≡ true
  pub commands : tally.commands ≡ command_count slot prefix
  pub packets : tally.packets ≡ length (packets_accepted slot prefix)
  pub moves : tally.moves ≡ move_times slot prefix
  pub moved : 0 < tally.moves → is_moved slot prefix ≡ true
  pub parked : tally.parked ≡ true → AllParked (marks_since slot prefix)

-- and what a line more brings
record Brings (slot : ℕ) (now : LineTold) (old new : Tally) : Type 0 where
  pub seen : new.seen ≡ true → (old.seen ≡ true) ⊎ (slot_of now ≡ Some slot)
  pub commands : new.commands ≡ old.commands + length (cons_option (accepted_command slot now) [])
  pub packets : new.packets ≡ old.packets + length (cons_option (accepted_packet slot now) [])
  pub more_moves : new.moves ≡ old.moves + cond (moves slot now) 1 0
  pub parked : new.parked ≡ true
      → (moves slot now ≡ true) ⊎ ((old.parked ≡ true) × AllParked (cons_option (parked_told slot now) []))

-- moves
moved_by : (slot : ℕ) (prefix : List LineTold) (now : LineTold) (test : Bool) (old new : ℕ) → moves slot now ≡ test
    → new ≡ old + cond test 1 0 → (0 < old → is_moved slot prefix ≡ true) → 0 < new
    → is_moved slot (prefix ++ now ∷ []) ≡ true
moved_by slot prefix now true old new is count before some =
    is_moved-behind slot prefix (now ∷ []) (ap (λ test. test || false) is)
moved_by slot prefix now false old new is count before some =
    is_moved-last slot prefix now is ∙ before (omega (arith, count, some))

parked_by : (slot : ℕ) (prefix : List LineTold) (now : LineTold) (test : Bool) (old : Tally) → moves slot now ≡ test
    → (old.parked ≡ true → AllParked (marks_since slot prefix))
    → (moves slot now ≡ true) ⊎ ((old.parked ≡ true) × AllParked (cons_option (parked_told slot now) []))
    → AllParked (marks_since slot (prefix ++ now ∷ []))
parked_by slot prefix now true old is before brings =
    subst (λ lines. AllParked (filter_map (parked_told slot) lines)) (sym (since-move slot prefix now is))
    (All-from_recursion (λ parked. IsTrue parked) [] tt)
parked_by slot prefix now false old is before (inl moved) = absurd (true≢false (sym moved ∙ is))
parked_by slot prefix now false old is before (inr parts) =
    subst (λ lines. AllParked (filter_map (parked_told slot) lines)) (sym (since-other slot prefix now is))
    (subst AllParked (sym (filter_map-append (parked_told slot) (behind_last_move slot prefix) (now ∷ [])))
    (All-append (λ parked. IsTrue parked) (marks_since slot prefix) (cons_option (parked_told slot now) [])
    (before parts.0) parts.1))

seen_by : (slot : ℕ) (prefix : List LineTold) (now : LineTold) (old : Tally)
    → (old.seen ≡ true → list_any (λ own. own == slot) (filter_map slot_of prefix) ≡ true)
    → (old.seen ≡ true) ⊎ (slot_of now ≡ Some slot)
    → list_any (λ own. own == slot) (filter_map slot_of (prefix ++ now ∷ [])) ≡ true
seen_by slot prefix now old before brings =
    let parts = ap (list_any (λ own. own == slot)) (filter_map-append slot_of prefix (now ∷ []))
    ∙ list_any-append (λ own. own == slot) (filter_map slot_of prefix) (filter_map slot_of (now ∷ [])) in
    parts ∙ elim brings [
      | inl earlier ↦
          or_left (list_any (λ own. own == slot) (filter_map slot_of prefix))
          (list_any (λ own. own == slot) (filter_map slot_of (now ∷ []))) (before earlier)
      | inr here ↦
          or_right (list_any (λ own. own == slot) (filter_map slot_of prefix))
          (list_any (λ own. own == slot) (filter_map slot_of (now ∷ [])))
          (ap (λ own. list_any (λ other. other == slot) (cons_option own [])) here
          ∙ ap (λ test. test || false) (eqb_same slot))
    ]

tally_more : (slot : ℕ) (prefix : List LineTold) (now : LineTold) (old new : Tally) → Brings slot now old new
    → IsTally slot prefix old → IsTally slot (prefix ++ now ∷ []) new
tally_more slot prefix now old new brings is =
    let commands = command_count-append slot prefix (now ∷ []) in
    let packets = packets_accepted-append slot prefix (now ∷ []) in
    let moved = sum_by-append (λ (told : LineTold). cond (moves slot told) 1 0) prefix (now ∷ []) in
    let old_commands = is.commands in
    let new_commands = brings.commands in
    let old_packets = is.packets in
    let new_packets = brings.packets in
    let old_moves = is.moves in
    let new_moves = brings.more_moves in
    record {
      seen = λ yes_is. seen_by slot prefix now old is.seen (brings.seen yes_is);
      commands = omega (arith, commands, old_commands, new_commands);
      packets = omega (arith, packets, old_packets, new_packets);
      moves = omega (arith, moved, old_moves, new_moves);
      moved = moved_by slot prefix now (moves slot now) old.moves new.moves refl brings.more_moves is.moved;
      parked = λ yes_is. parked_by slot prefix now (moves slot now) old refl is.parked (brings.parked yes_is);
    }

-- one line, where a test says whether it is of the slot
no_marks : AllParked []
no_marks = All-from_recursion (λ parked. IsTrue parked) [] tt

brings_none : (slot : ℕ) (now : LineTold) (tally : Tally) → accepted_command slot now ≡ None
    → accepted_packet slot now ≡ None → moves slot now ≡ false → parked_told slot now ≡ None
    → Brings slot now tally tally
brings_none slot now tally no_command no_packet no_move no_mark =
    let commands = ap {B = ℕ} (λ own. length (cons_option own [])) no_command in
    let packets = ap {B = ℕ} (λ own. length (cons_option own [])) no_packet in
    let moved = ap {B = ℕ} (λ test. cond test 1 0) no_move in
    record {
      seen = λ is. inl is;
      commands = omega (arith, commands);
      packets = omega (arith, packets);
      more_moves = omega (arith, moved);
      parked = λ is. inr (is, subst (λ mark. AllParked (cons_option mark [])) (sym no_mark) no_marks);
    }

command_brings : (test : Bool) (slot own : ℕ) (now : LineTold) (tally : Tally) (outcome : Outcome) (count : ℕ)
    → (own == slot) ≡ test → slot_of now ≡ Some own
    → length (cons_option (accepted_command slot now) []) ≡ cond test count 0
    → (with_command_line tally outcome).commands ≡ tally.commands + count
    → accepted_packet slot now ≡ None → moves slot now ≡ false → parked_told slot now ≡ None
    → Brings slot now tally (cond test (with_command_line tally outcome) tally)
command_brings true slot own now tally outcome count is here some more no_packet no_move no_mark =
    let packets = ap {B = ℕ} (λ own. length (cons_option own [])) no_packet in
    let moved = ap {B = ℕ} (λ test. cond test 1 0) no_move in
    record {
      seen = λ yes_is. inr (here ∙ ap Some (eqb-true own slot is));
      commands = omega (arith, some, more);
      packets = omega (arith, packets);
      more_moves = omega (arith, moved);
      parked = λ yes_is. inr (yes_is, subst (λ mark. AllParked (cons_option mark [])) (sym no_mark) no_marks);
    }
command_brings false slot own now tally outcome count is here some more no_packet no_move no_mark =
    let packets = ap {B = ℕ} (λ own. length (cons_option own [])) no_packet in
    let moved = ap {B = ℕ} (λ test. cond test 1 0) no_move in
    record {
      seen = λ yes_is. inl yes_is;
      commands = omega (arith, some);
      packets = omega (arith, packets);
      more_moves = omega (arith, moved);
      parked = λ yes_is. inr (yes_is, subst (λ mark. AllParked (cons_option mark [])) (sym no_mark) no_marks);
    }

mark_of : (mark : Bool) → IsTrue mark → AllParked (mark ∷ [])
mark_of mark is = All-from_recursion (λ parked. IsTrue parked) (mark ∷ []) (is, tt)

packet_brings : (test : Bool) (slot own : ℕ) (now : LineTold) (tally : Tally) (mark : Bool) (placed : Placed)
    → (own == slot) ≡ test → slot_of now ≡ Some own → accepted_command slot now ≡ None
    → accepted_packet slot now ≡ cond test (Some placed) None → moves slot now ≡ false
    → parked_told slot now ≡ cond test (Some mark) None
    → Brings slot now tally (cond test (with_packet_line tally (record { taken = true; parked = mark })) tally)
packet_brings true slot own now tally mark placed is here no_command one no_move marked =
    let commands = ap {B = ℕ} (λ own. length (cons_option own [])) no_command in
    let packets = ap {B = ℕ} (λ own. length (cons_option own [])) one in
    let moved = ap {B = ℕ} (λ test. cond test 1 0) no_move in
    record {
      seen = λ yes_is. inr (here ∙ ap Some (eqb-true own slot is));
      commands = omega (arith, commands);
      packets = omega (arith, packets);
      more_moves = omega (arith, moved);
      parked = λ all.
          let parts = and_parts tally.parked mark all in
          inr (parts.0, subst (λ m. AllParked (cons_option m [])) (sym marked) (mark_of mark parts.1));
    }
packet_brings false slot own now tally mark placed is here no_command one no_move marked =
    let commands = ap {B = ℕ} (λ own. length (cons_option own [])) no_command in
    let packets = ap {B = ℕ} (λ own. length (cons_option own [])) one in
    let moved = ap {B = ℕ} (λ test. cond test 1 0) no_move in
    record {
      seen = λ yes_is. inl yes_is;
      commands = omega (arith, commands);
      packets = omega (arith, packets);
      more_moves = omega (arith, moved);
      parked = λ yes_is. inr (yes_is, subst (λ m. AllParked (cons_option m [])) (sym marked) no_marks);
    }

refused_brings : (test : Bool) (slot own : ℕ) (now : LineTold) (tally : Tally)
    → (own == slot) ≡ test → slot_of now ≡ Some own → accepted_command slot now ≡ None
    → accepted_packet slot now ≡ None → moves slot now ≡ false → parked_told slot now ≡ None
    → Brings slot now tally (cond test (with_packet_line tally (record { taken = false; parked = false })) tally)
refused_brings true slot own now tally is here no_command no_packet no_move no_mark =
    let rest = brings_none slot now tally no_command no_packet no_move no_mark in
    record {
      seen = λ yes_is. inr (here ∙ ap Some (eqb-true own slot is));
      commands = rest.commands;
      packets = rest.packets;
      more_moves = rest.more_moves;
      parked = rest.parked;
    }
refused_brings false slot own now tally is here no_command no_packet no_move no_mark =
    brings_none slot now tally no_command no_packet no_move no_mark

move_brings : (test : Bool) (slot : ℕ) (now : LineTold) (tally : Tally) → moves slot now ≡ test
    → accepted_command slot now ≡ None → accepted_packet slot now ≡ None → parked_told slot now ≡ None
    → Brings slot now tally (cond test (with_move tally) tally)
move_brings true slot now tally is no_command no_packet no_mark =
    let commands = ap {B = ℕ} (λ own. length (cons_option own [])) no_command in
    let packets = ap {B = ℕ} (λ own. length (cons_option own [])) no_packet in
    let moved = ap {B = ℕ} (λ test. cond test 1 0) is in
    record {
      seen = λ yes_is. inl yes_is;
      commands = omega (arith, commands);
      packets = omega (arith, packets);
      more_moves = omega (arith, moved);
      parked = λ yes_is. inl is;
    }
move_brings false slot now tally is no_command no_packet no_mark =
    brings_none slot now tally no_command no_packet is no_mark

length-some : (test : Bool) (c : CommandKind) → length (cons_option (cond test (Some c) None) []) ≡ cond test 1 0
length-some true c = refl
length-some false c = refl

cond-none : (test : Bool) → ◌≡◌ {A = ℕ} 0 (cond test 0 0)
cond-none true = refl
cond-none false = refl

abbrev pub told_as : Meaning → LineEntry → LineTold
told_as meaning entry = record { meaning = meaning; entry = entry }

line_brings : (slot n : ℕ) (tally : Tally) (meaning : Meaning) (entry : LineEntry) → Answers n meaning entry
    → Brings slot (told_as meaning entry) tally (tally_after slot tally (asks_of meaning) (outcome_told entry))
line_brings slot n tally =
    answer_cases (λ meaning entry.
    Brings slot (told_as meaning entry) tally (tally_after slot tally (asks_of meaning) (outcome_told entry))) n
    (λ text noted. brings_none slot (told_as (note text) (line.N noted)) tally refl refl refl refl)
    (λ own slice text noted.
    move_brings (own == slot) slot (told_as (move own slice text) (line.N noted)) tally refl refl refl refl)
    (λ c answered. command_brings (answered.slot == slot) slot answered.slot
    (told_as (command answered.slot c) (line.C answered)) tally (record { taken = true; parked = false }) 1 refl refl
    (length-some (answered.slot == slot) c) refl refl refl refl)
    (λ own c refused. command_brings (own == slot) slot own (told_as (command own c) (line.F refused)) tally
    (record { taken = false; parked = false }) 0 refl refl (cond-none (own == slot)) (omega arith) refl refl refl)
    (λ p judged. packet_brings (judged.slot == slot) slot judged.slot
    (told_as (packet judged.slot p) (line.P judged)) tally judged.parked
    (record { commands = judged.commands; packet = p }) refl refl refl
    (map_some (judged.slot == slot) judged.commands p) refl refl)
    (λ own p refused. refused_brings (own == slot) slot own (told_as (packet own p) (line.F refused)) tally refl refl
    refl refl refl refl)

pub line_tallied : (slot n : ℕ) (prefix : List LineTold) (tally : Tally) (meaning : Meaning) (entry : LineEntry)
    → Answers n meaning entry → IsTally slot prefix tally
    → IsTally slot (prefix ++ told_as meaning entry ∷ []) (tally_after slot tally (asks_of meaning) (outcome_told entry))
line_tallied slot n prefix tally meaning entry answers is =
    tally_more slot prefix (told_as meaning entry) tally (tally_after slot tally (asks_of meaning) (outcome_told entry))
    (line_brings slot n tally meaning entry answers) is
