-- Refusals and parking of a driven epoch are lawful.
use Rattle.std.proofs.Common.{◌≡◌, ℕ, ◌+◌, ◌<◌, ◌≤◌, ◌==◌, Bool, true, false, Option, Some, None, List, [], ◌∷◌, ◌++◌, map, length, cond, refl, sym, ap, subst, ◌∙◌, arith, inl, inr, length-append}
use Rattle.std.proofs.lemmas.Bool.{false≢true}
use Rattle.std.specs.Bool.{IsTrue}
use Rattle.std.specs.Option.{option_map}
use Rattle.std.specs.List.{filter_map, cons_option, count_by}
use Rattle.std.proofs.lemmas.List.Elements.{All-from_recursion}
use Rattle.std.proofs.lemmas.List.Sums.{sum_by-append, sum_by-cons}
use Rattle.demux.specs.Trace.{Meaning, command, packet, move, note}
use Rattle.demux.specs.declared.packet.LentPacket.{LentPacket}
use Rattle.report_lines.specs.declared.entry.LineEntry.{LineEntry}
use Rattle.report_lines.specs.declared.entry.LineEntry.TheVariants as line
use Rattle.report_lines.specs.declared.entry.Refusal.{Refusal}
use Rattle.lawful_run.specs.Accepted.{is_refused, Placed, packet_for, accepted_packet, packets_accepted, commands_before}
use Rattle.lawful_run.specs.Answers.{Answers, AnswersAll}
use Rattle.lawful_run.specs.LinesTold.{LineTold, lines_told, EachFrom}
use Rattle.lawful_run.specs.Moves.{moves_by, moves}
use Rattle.lawful_run.specs.Parking.{MayPark, ParkedAs, ParkedBehindMoves}
use Rattle.lawful_run.specs.Refusals.{is_packet, packet_count, slot_of, is_move, move_count, lane_load, MayRefuse, RefusedAs, RefusedWhereFull}
use Rattle.lawful_run.specs.Setup.{sliced}
use Rattle.lawful_run.specs.Merging.{Histories}
use Rattle.lawful_run.specs.Report.{EpochReport}
use Rattle.lawful_run.specs.Run.{told_in}
use Rattle.epoch_schedule.specs.Tallies.{Tally, Tallies, no_tally, tallies_after, LaneFull, IsDue, AreDue}
use Rattle.epoch_schedule.specs.World.{Rooms}
use Rattle.epoch_schedule.proofs.Steps.{times_in}
use Rattle.epoch_schedule.proofs.Due.{each_outcome_is_due}
use Rattle.epoch_drive.specs.Driven.{IsDriven, asks_of, driven, outcome_told}
use Rattle.epoch_drive.proofs.Budgets.{times-append, times-cons, no_longer, once_each, length-once, once_there}
use Rattle.epoch_drive.proofs.Telling.{IsTally, move_times, told_as, line_tallied}

-- the slots of accepted packets, and those of moves
abbrev pub packet_slot_by : Meaning → Option ℕ
packet_slot_by (command slot c) = None
packet_slot_by (packet slot p) = Some slot
packet_slot_by (move slot slice text) = None
packet_slot_by (note text) = None

abbrev pub packet_slot : LineTold → Option ℕ
packet_slot told = cond (is_refused told.entry) None (packet_slot_by told.meaning)

abbrev pub move_slot_by : Meaning → Option ℕ
move_slot_by (command slot c) = None
move_slot_by (packet slot p) = None
move_slot_by (move slot slice text) = Some slot
move_slot_by (note text) = None

abbrev pub move_slot : LineTold → Option ℕ
move_slot told = move_slot_by told.meaning

-- as many as there are
length-option : {X : Type 0} (own : Option X) (xs : List X)
    → length (cons_option own xs) ≡ length (cons_option own []) + length xs
length-option None xs = omega arith
length-option (Some x) xs = omega arith

length-one : {X Y : Type 0} (test : X → Bool) (value : X → Option Y) (x : X) (xs : List X)
    → length (cons_option (value x) []) ≡ cond (test x) 1 0
    → length (filter_map value xs) ≡ count_by test xs → length (filter_map value (x ∷ xs)) ≡ count_by test (x ∷ xs)
length-one test value x xs one rest =
    let parts = sum_by-cons (λ y. cond (test y) 1 0) x xs in
    let split = length-option (value x) (filter_map value xs) in
    omega (arith, parts, one, rest, split)

packet_slot-one : (meaning : Meaning) (refused : Bool)
    → length (cons_option (cond refused None (packet_slot_by meaning)) [])
    ≡ cond (cond refused false (is_packet meaning)) 1 0
packet_slot-one (command slot c) true = refl
packet_slot-one (command slot c) false = refl
packet_slot-one (packet slot p) true = refl
packet_slot-one (packet slot p) false = refl
packet_slot-one (move slot slice text) true = refl
packet_slot-one (move slot slice text) false = refl
packet_slot-one (note text) true = refl
packet_slot-one (note text) false = refl

length-packets : (lines : List LineTold) → length (filter_map packet_slot lines) ≡ packet_count lines
length-packets [] = refl
length-packets (now ∷ lines) =
    length-one (λ told. cond (is_refused told.entry) false (is_packet told.meaning)) packet_slot now lines
    (packet_slot-one now.meaning (is_refused now.entry)) (length-packets lines)

move_slot-one : (meaning : Meaning) → length (cons_option (move_slot_by meaning) []) ≡ cond (is_move meaning) 1 0
move_slot-one (command slot c) = refl
move_slot-one (packet slot p) = refl
move_slot-one (move slot slice text) = refl
move_slot-one (note text) = refl

length-moves : (lines : List LineTold) → length (filter_map move_slot lines) ≡ move_count lines
length-moves [] = refl
length-moves (now ∷ lines) =
    length-one (λ told. is_move told.meaning) move_slot now lines (move_slot-one now.meaning) (length-moves lines)

-- and of each slot as many as it has
times-option : (s : ℕ) (own : Option ℕ) (xs : List ℕ)
    → times_in s (cons_option own xs) ≡ times_in s (cons_option own []) + times_in s xs
times-option s None xs = omega arith
times-option s (Some x) xs = times-append s (x ∷ []) xs

packet_by : (test : Bool) (p : LentPacket) (count : ℕ)
    → cond test 1 0 ≡ length (cons_option (option_map {T = LentPacket} {U = Placed}
    (λ q. record { commands = count; packet = q }) (cond test (Some p) None)) [])
packet_by true p count = refl
packet_by false p count = refl

times-one : (s x : ℕ) → times_in s (x ∷ []) ≡ cond (x == s) 1 0
times-one s x = let parts = times-cons s x [] in omega (arith, parts)

packet_times-one : (s : ℕ) (meaning : Meaning) (refused : Bool) (count : ℕ)
    → times_in s (cons_option (cond refused None (packet_slot_by meaning)) [])
    ≡ length (cons_option (cond refused None (option_map {T = LentPacket} {U = Placed}
    (λ q. record { commands = count; packet = q }) (packet_for s meaning))) [])
packet_times-one s (command slot c) true count = refl
packet_times-one s (command slot c) false count = refl
packet_times-one s (packet slot p) true count = refl
packet_times-one s (packet slot p) false count = times-one s slot ∙ packet_by (slot == s) p count
packet_times-one s (move slot slice text) true count = refl
packet_times-one s (move slot slice text) false count = refl
packet_times-one s (note text) true count = refl
packet_times-one s (note text) false count = refl

packet_times : (s : ℕ) (lines : List LineTold)
    → times_in s (filter_map packet_slot lines) ≡ length (packets_accepted s lines)
packet_times s [] = refl
packet_times s (now ∷ lines) =
    let own = times-option s (packet_slot now) (filter_map packet_slot lines) in
    let all = length-option (accepted_packet s now) (packets_accepted s lines) in
    let one = packet_times-one s now.meaning (is_refused now.entry) (commands_before now.entry) in
    let rest = packet_times s lines in
    omega (arith, own, all, one, rest)

move_times-one : (s : ℕ) (meaning : Meaning)
    → times_in s (cons_option (move_slot_by meaning) []) ≡ cond (moves_by s meaning) 1 0
move_times-one s (command slot c) = refl
move_times-one s (packet slot p) = refl
move_times-one s (move slot slice text) = times-one s slot
move_times-one s (note text) = refl

move_times-all : (s : ℕ) (lines : List LineTold) → times_in s (filter_map move_slot lines) ≡ move_times s lines
move_times-all s [] = refl
move_times-all s (now ∷ lines) =
    let own = times-option s (move_slot now) (filter_map move_slot lines) in
    let all = sum_by-cons (λ (told : LineTold). cond (moves s told) 1 0) now lines in
    let one = move_times-one s now.meaning in
    let rest = move_times-all s lines in
    omega (arith, own, all, one, rest)

-- a full lane has no more orders than all lines account for
seen_once : (seen : Bool) (count : ℕ) → (seen ≡ true → 1 ≤ count) → cond seen 1 0 ≤ count
seen_once true count some = some refl
seen_once false count some = omega arith

lane_loaded : (lane : ℕ) (prefix : List LineTold) (now : LineTold) (tallies : Tallies)
    → ((s : ℕ) → IsTally s (prefix ++ now ∷ []) (tallies s))
    → is_refused now.entry ≡ true → is_move now.meaning ≡ false
    → LaneFull lane tallies → lane ≤ lane_load prefix now
lane_loaded lane prefix now tallies are refused still full =
    let all : List LineTold = prefix ++ now ∷ [] in
    let packets = filter_map packet_slot all in
    let slots = once_each (filter_map slot_of all) in
    let moved = filter_map move_slot all in
    let few = no_longer full.slots (packets ++ (slots ++ (moved ++ moved)))
    (λ s.
    let own = full.each s in
    let is = are s in
    let first = times-append s packets (slots ++ (moved ++ moved)) in
    let second = times-append s slots (moved ++ moved) in
    let third = times-append s moved moved in
    let of_packets = packet_times s all in
    let packet_is = is.packets in
    let of_moves = move_times-all s all in
    let move_is = is.moves in
    let once = seen_once (tallies s).seen (times_in s slots)
    (λ seen. once_there s (filter_map slot_of all) (is.seen seen)) in
    omega (arith, own, first, second, third, of_packets, packet_is, of_moves, move_is, once)) in
    let enough = full.full in
    let first = length-append packets (slots ++ (moved ++ moved)) in
    let second = length-append slots (moved ++ moved) in
    let third = length-append moved moved in
    let packet_are = length-packets all in
    let slot_are = length-once (filter_map slot_of all) in
    let move_are = length-moves all in
    let packet_parts = sum_by-append (λ (told : LineTold).
    cond (cond (is_refused told.entry) false (is_packet told.meaning)) 1 0) prefix (now ∷ []) in
    let packet_one = sum_by-cons (λ (told : LineTold).
    cond (cond (is_refused told.entry) false (is_packet told.meaning)) 1 0) now [] in
    let no_packet = ap {B = ℕ} (λ test. cond (cond test false (is_packet now.meaning)) 1 0) refused in
    let move_parts = sum_by-append (λ (told : LineTold). cond (is_move told.meaning) 1 0) prefix (now ∷ []) in
    let move_one = sum_by-cons (λ (told : LineTold). cond (is_move told.meaning) 1 0) now [] in
    let no_move = ap {B = ℕ} (λ test. cond test 1 0) still in
    omega (
      arith,
      few,
      enough,
      first,
      second,
      third,
      packet_are,
      slot_are,
      move_are,
      packet_parts,
      packet_one,
      no_packet,
      move_parts,
      move_one,
      no_move,
    )

-- a line
abbrev pub rooms_of : (room lane : ℕ) → Rooms
rooms_of room lane = record { room = room; lane = lane }

parked_so : (parked : Bool) (slot : ℕ) (prefix : List LineTold) (tally : Tally) → IsTally slot prefix tally
    → (parked ≡ true → (0 < tally.moves) × (tally.parked ≡ true)) → MayPark parked slot prefix
parked_so false slot prefix tally is due = tt
parked_so true slot prefix tally is due = let parts = due refl in (is.moved parts.0, is.parked parts.1)

line_lawful : (slices room lane n : ℕ) (prefix : List LineTold) (tallies : Tallies) (meaning : Meaning)
    (entry : LineEntry)
    → Answers n meaning entry → ((s : ℕ) → IsTally s prefix (tallies s))
    → IsDue (rooms_of room lane) tallies (asks_of meaning) (outcome_told entry)
    → RefusedAs (sliced slices room lane) prefix (told_as meaning entry) entry × ParkedAs prefix entry
line_lawful slices room lane n prefix tallies (note text) (line.N noted) answers are due = (tt, tt)
line_lawful slices room lane n prefix tallies (note text) (line.C it) answers are due = absurd answers
line_lawful slices room lane n prefix tallies (note text) (line.P it) answers are due = absurd answers
line_lawful slices room lane n prefix tallies (note text) (line.F it) answers are due = absurd answers
line_lawful slices room lane n prefix tallies (move slot slice text) (line.N noted) answers are due = (tt, tt)
line_lawful slices room lane n prefix tallies (move slot slice text) (line.C it) answers are due = absurd answers
line_lawful slices room lane n prefix tallies (move slot slice text) (line.P it) answers are due = absurd answers
line_lawful slices room lane n prefix tallies (move slot slice text) (line.F it) answers are due = absurd answers
line_lawful slices room lane n prefix tallies (command slot c) (line.N it) answers are due = absurd answers
line_lawful slices room lane n prefix tallies (command slot c) (line.C it) answers are due = (tt, tt)
line_lawful slices room lane n prefix tallies (command slot c) (line.P it) answers are due = absurd answers
line_lawful slices room lane n prefix tallies (command slot c) (line.F refused) answers are due =
    let many = due refl in
    let count = (are slot).commands in (
      subst (λ (r : Refusal). MayRefuse (sliced slices room lane) r.slot r.packet prefix
          (told_as (command slot c) (line.F refused))) (sym answers) (omega (arith, many, count)),
      tt,
    )
line_lawful slices room lane n prefix tallies (packet slot p) (line.N it) answers are due = absurd answers
line_lawful slices room lane n prefix tallies (packet slot p) (line.C it) answers are due = absurd answers
line_lawful slices room lane n prefix tallies (packet slot p) (line.P judged) answers are due = (
  tt,
  subst (λ own. MayPark judged.parked own prefix) (sym answers.1)
      (parked_so judged.parked slot prefix (tallies slot) (are slot) due.parked),
)
line_lawful slices room lane n prefix tallies (packet slot p) (line.F refused) answers are due =
    let now = told_as (packet slot p) (line.F refused) in
    let after = tallies_after tallies (asks_of (packet slot p)) (outcome_told (line.F refused)) in
    let behind : (s : ℕ) → IsTally s (prefix ++ now ∷ []) (after s) =
    λ s. line_tallied s n prefix (tallies s) (packet slot p) (line.F refused) answers (are s) in (
      subst (λ (r : Refusal). MayRefuse (sliced slices room lane) r.slot r.packet prefix now) (sym answers)
          (elim (due.refused refl) [
            | inl full ↦ inl (lane_loaded lane prefix now after behind refl refl full)
            | inr waits ↦
                let many = waits.1 in
                let count = (are slot).packets in
                inr ((are slot).moved waits.0, omega (arith, many, count))
          ]),
      tt,
    )

-- lines
pub record LinesLawful (slices room lane : ℕ) (prefix lines : List LineTold) : Type 0 where
  pub refusals : EachFrom (RefusedWhereFull (sliced slices room lane)) prefix lines
  pub parking : EachFrom ParkedBehindMoves prefix lines

pub lines_lawful : (slices room lane n : ℕ) (prefix : List LineTold) (tallies : Tallies) (made : List Meaning)
    (entries : List LineEntry) (turns : List (List ℕ)) → AnswersAll n made entries
    → ((s : ℕ) → IsTally s prefix (tallies s))
    → AreDue (rooms_of room lane) tallies (driven made turns) (map outcome_told entries)
    → LinesLawful slices room lane prefix (lines_told made entries)
lines_lawful slices room lane n prefix tallies [] entries turns each are due = record { refusals = tt; parking = tt }
lines_lawful slices room lane n prefix tallies (now ∷ made) [] turns each are due = absurd each
lines_lawful slices room lane n prefix tallies (now ∷ made) (entry ∷ entries) [] each are due =
    let here = line_lawful slices room lane n prefix tallies now entry each.0 are due.0 in
    let rest = lines_lawful slices room lane (n + 1) (prefix ++ told_as now entry ∷ [])
    (tallies_after tallies (asks_of now) (outcome_told entry)) made entries [] each.1
    (λ s. line_tallied s n prefix (tallies s) now entry each.0 (are s)) due.1 in
    record { refusals = (here.0, rest.refusals); parking = (here.1, rest.parking) }
lines_lawful slices room lane n prefix tallies (now ∷ made) (entry ∷ entries) (first ∷ turns) each are due =
    let here = line_lawful slices room lane n prefix tallies now entry each.0 are due.0 in
    let rest = lines_lawful slices room lane (n + 1) (prefix ++ told_as now entry ∷ [])
    (tallies_after tallies (asks_of now) (outcome_told entry)) made entries turns each.1
    (λ s. line_tallied s n prefix (tallies s) now entry each.0 (are s)) due.1 in
    record { refusals = (here.0, rest.refusals); parking = (here.1, rest.parking) }

-- before the first line
pub untold : (s : ℕ) → IsTally s [] no_tally
untold s = record {
  seen = λ seen. absurd (false≢true seen);
  commands = refl;
  packets = refl;
  moves = refl;
  moved = λ some. absurd (omega (arith, some));
  parked = λ all. All-from_recursion (λ parked. IsTrue parked) [] tt;
}

pub driven_lines : (slices room lane : ℕ) (bounds : ℕ → ℕ) (turns : List (List ℕ)) (slots first : ℕ)
    (before : Histories) (made : List Meaning) (told : EpochReport)
    → IsDriven (rooms_of room lane) bounds turns slots first before made told
    → LinesLawful slices room lane [] (told_in made told)
driven_lines slices room lane bounds turns slots first before made told is =
    lines_lawful slices room lane first [] (λ s. no_tally) made told.lines turns is.one_each
    untold
    (subst (AreDue (rooms_of room lane) (λ s. no_tally) (driven made turns)) (sym is.outcomes_are)
    (each_outcome_is_due (rooms_of room lane) bounds (driven made turns)))
