-- Counts of filled entries lie within their bounds.
use Rattle.std.proofs.Common.{◌≡◌, ℕ, ◌+◌, ◌-◌, ◌<◌, ◌≤◌, ◌==◌, Bool, true, false, Some, None, List, [], ◌∷◌, ◌++◌, map, length, take, drop, cond, refl, sym, ap, subst, ◌∙◌, arith, append_assoc}
use Rattle.std.specs.List.{cons_option, AllZip, AllByRecursion}
use Rattle.std.specs.Option.{option_map}
use Rattle.std.proofs.lemmas.List.Elements.{recursion_from_All}
use Rattle.demux.specs.Trace.{Meaning, packet}
use Rattle.demux.specs.declared.packet.LentPacket.{LentPacket}
use Rattle.gate_model.specs.Events.{packets_of}
use Rattle.report_lines.specs.Records.{PacketTold}
use Rattle.report_lines.specs.declared.entry.LineEntry.{LineEntry}
use Rattle.report_lines.specs.declared.entry.LineEntry.TheVariants as line
use Rattle.lawful_run.specs.Accepted.{Placed, accepted_packet, packets_accepted}
use Rattle.lawful_run.specs.Answers.{Answers, AnswersAll}
use Rattle.lawful_run.specs.Bounds.{MeetsBounds, MeetsAs, count_before}
use Rattle.lawful_run.specs.Setup.{sliced}
use Rattle.lawful_run.specs.LinesTold.{LineTold, lines_told, EachFrom}
use Rattle.lawful_run.specs.Merging.{Histories}
use Rattle.lawful_run.specs.Telling.{counted}
use Rattle.lawful_run.proofs.SlotCases.{eqb_same}
use Rattle.lawful_run.specs.Filling.{Met, Replies, Mets, judged_with, fill, filled, replied_slot, met_slot, others_of}
use Rattle.lawful_run.specs.Floors.{packet_floor, floor_for, command_floors, packet_floors}
use Rattle.lawful_run.specs.Joined.{MeetsFloors}
use Rattle.lawful_run.proofs.Ceilings.{ceiling_holds, packets_accepted-append}
use Rattle.lawful_run.proofs.Fillings.{answer_cases}

abbrev pub packets_before : Histories → ℕ → ℕ
packets_before before slot = length (packets_of (before slot))

abbrev pub IsLeast : ℕ → Met → Type 0
IsLeast floor met = floor ≤ met.commands

-- what is still to be told of a slot's packets, at a line
pub record SlotLeft (slot commands packets : ℕ) (floors : List ℕ) (prefix later : List LineTold)
    (mets : List Met) : Type 0 where
  pub least : AllZip IsLeast (packet_floors slot commands prefix later) mets
  pub most : AllByRecursion (MeetsFloors commands floors) mets
  pub numbers : map (λ (m : Met). m.number) mets
      ≡ counted (packets + length (packets_accepted slot prefix)) (length (packets_accepted slot later))

one_packet_more : (slot : ℕ) (prefix : List LineTold) (now : LineTold) (placed : Placed)
    → accepted_packet slot now ≡ Some placed
    → length (packets_accepted slot (prefix ++ now ∷ [])) ≡ length (packets_accepted slot prefix) + 1
one_packet_more slot prefix now placed is =
    let parts = packets_accepted-append slot prefix (now ∷ []) in
    let one : length (packets_accepted slot (now ∷ [])) ≡ 1 = ap (λ own. length (cons_option own [])) is in
    omega (arith, parts, one)

no_packet_more : (slot : ℕ) (prefix : List LineTold) (now : LineTold) → accepted_packet slot now ≡ None
    → length (packets_accepted slot (prefix ++ now ∷ [])) ≡ length (packets_accepted slot prefix)
no_packet_more slot prefix now is =
    let parts = packets_accepted-append slot prefix (now ∷ []) in
    let none : length (packets_accepted slot (now ∷ [])) ≡ 0 = ap (λ own. length (cons_option own [])) is in
    omega (arith, parts, none)

-- the next packet of a slot
least_of : (slot commands : ℕ) (prefix : List LineTold) (now : LineTold) (later : List LineTold) (placed : Placed)
    (mets : List Met)
    → accepted_packet slot now ≡ Some placed
    → AllZip IsLeast (packet_floors slot commands prefix (now ∷ later)) mets
    → AllZip IsLeast (packet_floor slot commands prefix ∷ packet_floors slot commands (prefix ++ now ∷ []) later) mets
least_of slot commands prefix now later placed mets is least =
    subst (λ own. AllZip IsLeast (cons_option (floor_for own (packet_floor slot commands prefix))
    (packet_floors slot commands (prefix ++ now ∷ []) later)) mets) is least

numbers_of : (slot packets : ℕ) (prefix : List LineTold) (now : LineTold) (later : List LineTold) (placed : Placed)
    (numbers : List ℕ)
    → accepted_packet slot now ≡ Some placed
    → numbers ≡ counted (packets + length (packets_accepted slot prefix)) (length (packets_accepted slot (now ∷ later)))
    → numbers ≡ (packets + length (packets_accepted slot prefix))
    ∷ counted (packets + length (packets_accepted slot (prefix ++ now ∷ []))) (length (packets_accepted slot later))
numbers_of slot packets prefix now later placed numbers is same =
    let more = one_packet_more slot prefix now placed is in
    let next : packets + length (packets_accepted slot prefix) + 1
    ≡ packets + length (packets_accepted slot (prefix ++ now ∷ [])) = omega (arith, more) in
    same
    ∙ ap (λ own. counted (packets + length (packets_accepted slot prefix))
    (length (cons_option own (packets_accepted slot later)))) is
    ∙ ap (λ k. (packets + length (packets_accepted slot prefix)) ∷ counted k (length (packets_accepted slot later))) next

next_number : {X : Type 0} (x y : X) (xs ys : List X) → (x ∷ xs) ≡ (y ∷ ys) → (x ≡ y) × (xs ≡ ys)
next_number x y xs ys same = (cc, cc)

-- a line that brings no packet of the slot, and one that may
pub unmet : (slot commands packets : ℕ) (floors : List ℕ) (prefix : List LineTold) (now : LineTold) (later : List LineTold)
    (mets : List Met)
    → accepted_packet slot now ≡ None
    → SlotLeft slot commands packets floors prefix (now ∷ later) mets
    → SlotLeft slot commands packets floors (prefix ++ now ∷ []) later mets
unmet slot commands packets floors prefix now later mets is left =
    let none = no_packet_more slot prefix now is in
    record {
      least = subst (λ own. AllZip IsLeast (cons_option (floor_for own (packet_floor slot commands prefix))
          (packet_floors slot commands (prefix ++ now ∷ []) later)) mets) is left.least;
      most = left.most;
      numbers = left.numbers
          ∙ ap (λ own. counted (packets + length (packets_accepted slot prefix))
          (length (cons_option own (packets_accepted slot later)))) is
          ∙ ap (λ k. counted (packets + k) (length (packets_accepted slot later))) (sym none);
    }

pub slot_step : (test : Bool) (slot commands packets : ℕ) (floors : List ℕ) (prefix : List LineTold) (now : LineTold)
    (later : List LineTold) (placed : Placed) (mets : List Met)
    → accepted_packet slot now ≡ cond test (Some placed) None
    → SlotLeft slot commands packets floors prefix (now ∷ later) mets
    → SlotLeft slot commands packets floors (prefix ++ now ∷ []) later (cond test (drop 1 mets) mets)
slot_step true slot commands packets floors prefix now later placed [] is left =
    absurd (least_of slot commands prefix now later placed [] is left.least)
slot_step true slot commands packets floors prefix now later placed (m ∷ mets) is left =
    let least = least_of slot commands prefix now later placed (m ∷ mets) is left.least in
    let numbers = numbers_of slot packets prefix now later placed (map (λ (m : Met). m.number) (m ∷ mets)) is
    left.numbers in
    record {
      least = least.1;
      most = left.most.1;
      numbers = (next_number m.number (packets + length (packets_accepted slot prefix))
          (map (λ (m : Met). m.number) mets)
          (counted (packets + length (packets_accepted slot (prefix ++ now ∷ [])))
          (length (packets_accepted slot later))) numbers).1;
    }
slot_step false slot commands packets floors prefix now later placed mets is left =
    unmet slot commands packets floors prefix now later mets is left

-- a packet of a slot, or none
pub map_some : (test : Bool) (commands : ℕ) (p : LentPacket)
    → option_map {T = LentPacket} {U = Placed} (λ q. record { commands = commands; packet = q }) (cond test (Some p) None)
    ≡ cond test (Some (record { commands = commands; packet = p })) None
map_some true commands p = refl
map_some false commands p = refl

-- a packet's own bounds
own_packet : (judged : PacketTold) (p : LentPacket)
    → accepted_packet judged.slot (record { meaning = packet judged.slot p; entry = line.P judged })
    ≡ Some (record { commands = judged.commands; packet = p })
own_packet judged p =
    ap (λ test. option_map {T = LentPacket} {U = Placed} (λ q. record { commands = judged.commands; packet = q })
    (cond test (Some p) None)) (eqb_same judged.slot)

pub met_bounds : (slices room lane : ℕ) (before : Histories) (prefix later : List LineTold) (p : LentPacket)
    (judged : PacketTold) (mets : List Met) (floors : List ℕ)
    → floors ≡ command_floors judged.slot (packets_before before judged.slot) []
    (prefix ++ record { meaning = packet judged.slot p; entry = line.P (judged_with judged mets) } ∷ later)
    → SlotLeft judged.slot (count_before before judged.slot) (packets_before before judged.slot) floors prefix
    (record { meaning = packet judged.slot p; entry = line.P (judged_with judged mets) } ∷ later) mets
    → MeetsAs (sliced slices room lane) before prefix (line.P (judged_with judged mets)) later
met_bounds slices room lane before prefix later p judged [] floors are left =
    absurd (least_of judged.slot (count_before before judged.slot) prefix
    (record { meaning = packet judged.slot p; entry = line.P judged }) later
    (record { commands = judged.commands; packet = p }) [] (own_packet judged p) left.least)
met_bounds slices room lane before prefix later p judged (m ∷ mets) floors are left =
    let slot = judged.slot in
    let commands = count_before before judged.slot in
    let packets = packets_before before judged.slot in
    let with_met : PacketTold = judged_with judged (m ∷ mets) in
    let now : LineTold = record { meaning = packet judged.slot p; entry = line.P with_met } in
    let placed : Placed = record { commands = m.commands; packet = p } in
    let is : accepted_packet slot now ≡ Some placed = own_packet with_met p in
    let least = least_of slot commands prefix now later placed (m ∷ mets) is left.least in
    let numbers = numbers_of slot packets prefix now later placed (map (λ (m : Met). m.number) (m ∷ mets)) is
    left.numbers in
    let number = (next_number m.number (packets + length (packets_accepted slot prefix))
    (map (λ (m : Met). m.number) mets)
    (counted (packets + length (packets_accepted slot (prefix ++ now ∷ [])))
    (length (packets_accepted slot later))) numbers).0 in
    let more = one_packet_more slot prefix now placed is in
    let most = left.most.0 in
    let within : m.commands - commands ≤ length floors = omega (arith, most.0) in
    let some = recursion_from_All (λ floor. floor ≤ m.number) (take (m.commands - commands) floors) most.1 in
    let below : m.number < packets + length (packets_accepted slot (prefix ++ now ∷ [])) =
    omega (arith, number, more) in
    let bound = ceiling_holds slot packets m.number (m.commands - commands) prefix now later refl below
    (subst (λ fs. m.commands - commands ≤ length fs) are within)
    (subst (λ fs. AllByRecursion (λ floor. floor ≤ m.number) (take (m.commands - commands) fs)) are some) in
    (least.0, omega (arith, bound))

-- at each line
abbrev pub Bounded : Histories → List LineTold → List LineTold → List LineTold → Mets → Type 0
Bounded before all prefix later mets = (slot : ℕ) → SlotLeft slot (count_before before slot)
    (packets_before before slot) (command_floors slot (packets_before before slot) [] all) prefix later (mets slot)

line_bounds : (slices room lane n : ℕ) (before : Histories) (all prefix later : List LineTold) (meaning : Meaning)
    (entry : LineEntry) (replies : Replies) (mets : Mets)
    → Answers n meaning entry
    → all ≡ prefix ++ record { meaning = meaning; entry = fill entry replies mets } ∷ later
    → Bounded before all prefix (record { meaning = meaning; entry = fill entry replies mets } ∷ later) mets
    → MeetsAs (sliced slices room lane) before prefix (fill entry replies mets) later
    × Bounded before all (prefix ++ record { meaning = meaning; entry = fill entry replies mets } ∷ []) later
    (others_of (met_slot entry) mets)
line_bounds slices room lane n before all prefix later meaning entry replies mets answers is left =
    answer_cases (λ meaning entry. all ≡ prefix ++ record { meaning = meaning; entry = fill entry replies mets } ∷ later
    → Bounded before all prefix (record { meaning = meaning; entry = fill entry replies mets } ∷ later) mets
    → MeetsAs (sliced slices room lane) before prefix (fill entry replies mets) later
    × Bounded before all (prefix ++ record { meaning = meaning; entry = fill entry replies mets } ∷ []) later
    (others_of (met_slot entry) mets)) n
    (λ text noted is left. (tt, λ slot. unmet slot _ _ _ prefix _ later (mets slot) refl (left slot)))
    (λ own slice text noted is left. (tt, λ slot. unmet slot _ _ _ prefix _ later (mets slot) refl (left slot)))
    (λ c answered is left. (tt, λ slot. unmet slot _ _ _ prefix _ later (mets slot) refl (left slot)))
    (λ own c refused is left. (tt, λ slot. unmet slot _ _ _ prefix _ later (mets slot) refl (left slot)))
    (λ p judged is left. (
      met_bounds slices room lane before prefix later p judged (mets judged.slot)
          (command_floors judged.slot (packets_before before judged.slot) [] all)
          (ap (command_floors judged.slot (packets_before before judged.slot) []) is) (left judged.slot),
      λ slot. slot_step (judged.slot == slot) slot (count_before before slot) (packets_before before slot)
          (command_floors slot (packets_before before slot) [] all) prefix
          (record { meaning = packet judged.slot p; entry = line.P (judged_with judged (mets judged.slot)) }) later
          (record { commands = (judged_with judged (mets judged.slot)).commands; packet = p }) (mets slot)
          (map_some (judged.slot == slot) (judged_with judged (mets judged.slot)).commands p) (left slot),
    ))
    (λ own p refused is left. (tt, λ slot. unmet slot _ _ _ prefix _ later (mets slot) refl (left slot)))
    meaning entry answers is left

pub bounds_from : (slices room lane n : ℕ) (before : Histories) (all prefix : List LineTold) (made : List Meaning)
    (entries : List LineEntry) (replies : Replies) (mets : Mets)
    → AnswersAll n made entries
    → all ≡ prefix ++ lines_told made (filled entries replies mets)
    → Bounded before all prefix (lines_told made (filled entries replies mets)) mets
    → EachFrom (MeetsBounds (sliced slices room lane) before) prefix (lines_told made (filled entries replies mets))
bounds_from slices room lane n before all prefix [] entries replies mets each is left = tt
bounds_from slices room lane n before all prefix (now ∷ made) [] replies mets each is left = tt
bounds_from slices room lane n before all prefix (now ∷ made) (entry ∷ entries) replies mets each is left =
    let told : LineTold = record { meaning = now; entry = fill entry replies mets } in
    let later = lines_told made (filled entries (others_of (replied_slot entry) replies)
    (others_of (met_slot entry) mets)) in
    let here = line_bounds slices room lane n before all prefix later now entry replies mets each.0 is left in (
      here.0,
      bounds_from slices room lane (n + 1) before all (prefix ++ told ∷ []) made entries
          (others_of (replied_slot entry) replies) (others_of (met_slot entry) mets) each.1
          (is ∙ sym (append_assoc prefix (told ∷ []) later)) here.1,
    )
