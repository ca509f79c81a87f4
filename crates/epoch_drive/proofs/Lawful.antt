-- A driven epoch is a lawful one: the counts of its packets lie within their bounds.
use Rattle.std.proofs.Common.{◌≡◌, ℕ, zero, suc, ◌+◌, ◌-◌, ◌<◌, ◌≤◌, ◌==◌, Bool, true, false, Option, Some, None, List, [], ◌∷◌, ◌++◌, map, length, take, drop, get_or, cond, refl, sym, ap, subst, ◌∙◌, arith, append_assoc}
use Rattle.std.specs.List.{filter_map, cons_option, AllZip, AllByRecursion}
use Rattle.std.proofs.lemmas.List.{length-map}
use Rattle.std.proofs.lemmas.List.Elements.{All-from_recursion}
use Rattle.demux.specs.Trace.{Meaning, packet}
use Rattle.report_lines.specs.Records.{PacketTold}
use Rattle.report_lines.specs.declared.entry.LineEntry.{LineEntry}
use Rattle.report_lines.specs.declared.entry.LineEntry.TheVariants as line
use Rattle.lawful_run.specs.Accepted.{packets_accepted}
use Rattle.lawful_run.specs.Answers.{Answers, AnswersAll}
use Rattle.lawful_run.specs.Bounds.{MeetsBounds, MeetsAs, count_before}
use Rattle.lawful_run.specs.Setup.{sliced}
use Rattle.lawful_run.specs.LinesTold.{LineTold, lines_told, EachFrom}
use Rattle.lawful_run.specs.Merging.{Histories}
use Rattle.lawful_run.specs.Report.{EpochReport}
use Rattle.lawful_run.specs.Run.{told_in}
use Rattle.lawful_run.specs.Telling.{packet_number, commands_told, counted}
use Rattle.lawful_run.proofs.SlotCases.{eqb_same}
use Rattle.lawful_run.specs.Filling as fill
use Rattle.lawful_run.specs.Floors.{command_floors}
use Rattle.lawful_run.specs.Joined.{MeetsFloors}
use Rattle.lawful_run.proofs.Bounding.{SlotLeft, IsLeast, packets_before, Bounded, unmet, slot_step, map_some, met_bounds}
use Rattle.lawful_run.proofs.Fillings.{answer_cases}
use Rattle.epoch_schedule.specs.Accounts.{Account, no_account, account_of}
use Rattle.epoch_schedule.specs.Fits.{floor_at, packet_at, count_at}
use Rattle.epoch_schedule.specs.Schedule.{outcomes, slot_behind}
use Rattle.epoch_schedule.specs.Slots.{CommandTags, Met}
use Rattle.epoch_schedule.specs.World.{Rooms, start}
use Rattle.epoch_schedule.proofs.Lines.{each_packet_is_handled}
use Rattle.epoch_drive.specs.Driven.{IsDriven, DrivenEpochsAreLawful, driven, outcome_told, mets_driven}
use Rattle.epoch_drive.proofs.Accounting.{floors_told, command_floors-base, packet_floors-base}
use Rattle.epoch_drive.proofs.Owing.{driven_lines}
use Rattle.epoch_drive.proofs.Rising.{counts_rise}

-- what the packets of a slot met, as their entries tell it
abbrev pub met_of : PacketTold → fill.Met
met_of judged = record {
  number = judged.number;
  commands = judged.commands;
  verdict = judged.verdict;
  place = judged.place;
}

abbrev pub met_told : ℕ → LineEntry → Option fill.Met
met_told slot (line.N noted) = None
met_told slot (line.C answered) = None
met_told slot (line.P judged) = cond (judged.slot == slot) (Some (met_of judged)) None
met_told slot (line.F refused) = None

abbrev pub mets_told : List LineEntry → ℕ → List fill.Met
mets_told entries slot = filter_map (met_told slot) entries

-- they tell the numbers and counts that entries tell
map-first : {X Y : Type 0} (value : X → Y) (test : Bool) (x : X) (xs : List X) (ys : List Y) → map value xs ≡ ys
    → map value (cons_option (cond test (Some x) None) xs) ≡ cons_option (cond test (Some (value x)) None) ys
map-first value true x xs ys same = ap (λ zs. value x ∷ zs) same
map-first value false x xs ys same = same

numbers_of : (slot : ℕ) (entries : List LineEntry)
    → map (λ (m : fill.Met). m.number) (mets_told entries slot) ≡ filter_map (packet_number slot) entries
numbers_of slot [] = refl
numbers_of slot (line.N noted ∷ entries) = numbers_of slot entries
numbers_of slot (line.C answered ∷ entries) = numbers_of slot entries
numbers_of slot (line.P judged ∷ entries) =
    map-first (λ (m : fill.Met). m.number) (judged.slot == slot) (met_of judged) (mets_told entries slot)
    (filter_map (packet_number slot) entries) (numbers_of slot entries)
numbers_of slot (line.F refused ∷ entries) = numbers_of slot entries

counts_of : (slot : ℕ) (entries : List LineEntry)
    → map (λ (m : fill.Met). m.commands) (mets_told entries slot) ≡ filter_map (commands_told slot) entries
counts_of slot [] = refl
counts_of slot (line.N noted ∷ entries) = counts_of slot entries
counts_of slot (line.C answered ∷ entries) = counts_of slot entries
counts_of slot (line.P judged ∷ entries) =
    map-first (λ (m : fill.Met). m.commands) (judged.slot == slot) (met_of judged) (mets_told entries slot)
    (filter_map (commands_told slot) entries) (counts_of slot entries)
counts_of slot (line.F refused ∷ entries) = counts_of slot entries

-- line by line
drop-first : {X : Type 0} (test : Bool) (x : X) (xs : List X)
    → cond test (drop 1 (cons_option (cond test (Some x) None) xs)) (cons_option (cond test (Some x) None) xs) ≡ xs
drop-first true x xs = refl
drop-first false x xs = refl

own_first : (judged : PacketTold) (entries : List LineEntry)
    → mets_told (line.P judged ∷ entries) judged.slot ≡ met_of judged ∷ mets_told entries judged.slot
own_first judged entries =
    ap (λ test. cons_option (cond test (Some (met_of judged)) None) (mets_told entries judged.slot))
    (eqb_same judged.slot)

line_bounds : (slices room lane n : ℕ) (before : Histories) (all prefix later : List LineTold) (meaning : Meaning)
    (entry : LineEntry) (entries : List LineEntry)
    → Answers n meaning entry
    → all ≡ prefix ++ record { meaning = meaning; entry = entry } ∷ later
    → Bounded before all prefix (record { meaning = meaning; entry = entry } ∷ later) (mets_told (entry ∷ entries))
    → MeetsAs (sliced slices room lane) before prefix entry later
    × Bounded before all (prefix ++ record { meaning = meaning; entry = entry } ∷ []) later (mets_told entries)
line_bounds slices room lane n before all prefix later meaning entry entries answers is left =
    answer_cases (λ meaning entry. all ≡ prefix ++ record { meaning = meaning; entry = entry } ∷ later
    → Bounded before all prefix (record { meaning = meaning; entry = entry } ∷ later) (mets_told (entry ∷ entries))
    → MeetsAs (sliced slices room lane) before prefix entry later
    × Bounded before all (prefix ++ record { meaning = meaning; entry = entry } ∷ []) later (mets_told entries)) n
    (λ text noted is left. (tt, λ slot. unmet slot _ _ _ prefix _ later (mets_told entries slot) refl (left slot)))
    (λ own slice text noted is left.
    (tt, λ slot. unmet slot _ _ _ prefix _ later (mets_told entries slot) refl (left slot)))
    (λ c answered is left. (tt, λ slot. unmet slot _ _ _ prefix _ later (mets_told entries slot) refl (left slot)))
    (λ own c refused is left. (tt, λ slot. unmet slot _ _ _ prefix _ later (mets_told entries slot) refl (left slot)))
    (λ p judged is left. (
      met_bounds slices room lane before prefix later p judged (met_of judged ∷ mets_told entries judged.slot)
          (command_floors judged.slot (packets_before before judged.slot) [] all)
          (ap (command_floors judged.slot (packets_before before judged.slot) []) is)
          (subst (SlotLeft judged.slot (count_before before judged.slot) (packets_before before judged.slot)
          (command_floors judged.slot (packets_before before judged.slot) [] all) prefix
          (record { meaning = packet judged.slot p; entry = line.P judged } ∷ later))
          (own_first judged entries) (left judged.slot)),
      λ slot. subst (SlotLeft slot (count_before before slot) (packets_before before slot)
          (command_floors slot (packets_before before slot) [] all)
          (prefix ++ record { meaning = packet judged.slot p; entry = line.P judged } ∷ []) later)
          (drop-first (judged.slot == slot) (met_of judged) (mets_told entries slot))
          (slot_step (judged.slot == slot) slot (count_before before slot) (packets_before before slot)
          (command_floors slot (packets_before before slot) [] all) prefix
          (record { meaning = packet judged.slot p; entry = line.P judged }) later
          (record { commands = judged.commands; packet = p }) (mets_told (line.P judged ∷ entries) slot)
          (map_some (judged.slot == slot) judged.commands p) (left slot)),
    ))
    (λ own p refused is left. (tt, λ slot. unmet slot _ _ _ prefix _ later (mets_told entries slot) refl (left slot)))
    meaning entry answers is left

bounds_from : (slices room lane n : ℕ) (before : Histories) (all prefix : List LineTold) (made : List Meaning)
    (entries : List LineEntry)
    → AnswersAll n made entries
    → all ≡ prefix ++ lines_told made entries
    → Bounded before all prefix (lines_told made entries) (mets_told entries)
    → EachFrom (MeetsBounds (sliced slices room lane) before) prefix (lines_told made entries)
bounds_from slices room lane n before all prefix [] entries each is left = tt
bounds_from slices room lane n before all prefix (now ∷ made) [] each is left = tt
bounds_from slices room lane n before all prefix (now ∷ made) (entry ∷ entries) each is left =
    let told : LineTold = record { meaning = now; entry = entry } in
    let here = line_bounds slices room lane n before all prefix (lines_told made entries) now entry entries each.0 is
    left in (
      here.0,
      bounds_from slices room lane (n + 1) before all (prefix ++ told ∷ []) made entries each.1
          (is ∙ sym (append_assoc prefix (told ∷ []) (lines_told made entries))) here.1,
    )

-- counts of the world and counts of the entries
first_of_two : {X : Type 0} (x y : X) (xs ys : List X) → (x ∷ xs) ≡ (y ∷ ys) → (x ≡ y) × (xs ≡ ys)
first_of_two x y xs ys same = (cc, cc)

pub length-counted : (first n : ℕ) → length (counted first n) ≡ n
length-counted first zero = refl
length-counted first (suc n) = let rest = length-counted (first + 1) n in omega (arith, rest)

least_zip : (base : ℕ) (packets : List ℕ) (met : List Met) (told : List fill.Met)
    → map (λ (m : fill.Met). m.commands) told ≡ map (λ (m : Met). base + m.commands) met
    → length met ≡ length packets
    → ((k : ℕ) → k < length met → packet_at packets k ≤ count_at met k)
    → AllZip IsLeast (map (λ (f : ℕ). base + f) packets) told
least_zip base [] [] [] same many least = tt
least_zip base [] [] (t ∷ told) same many least = absurd (let long = ap length same in omega (arith, long))
least_zip base [] (m ∷ met) told same many least = absurd (omega (arith, many))
least_zip base (p ∷ packets) [] told same many least = absurd (omega (arith, many))
least_zip base (p ∷ packets) (m ∷ met) [] same many least =
    absurd (let long = ap length same in omega (arith, long))
least_zip base (p ∷ packets) (m ∷ met) (t ∷ told) same many least =
    let first : t.commands ≡ base + m.commands = (first_of_two _ _ _ _ same).0 in
    let here : p ≤ m.commands = least 0 (omega arith) in (
      omega (arith, first, here),
      least_zip base packets met told (first_of_two _ _ _ _ same).1 (omega (arith, many))
          (λ k within. least (suc k) (omega (arith, within))),
    )

all_prefix : (count base most : ℕ) (floors : List ℕ)
    → ((j : ℕ) → j < count → get_or floors j 0 ≤ most)
    → AllByRecursion (λ floor. floor ≤ base + most) (take count (map (λ (f : ℕ). base + f) floors))
all_prefix zero base most floors low = tt
all_prefix (suc count) base most [] low = tt
all_prefix (suc count) base most (f ∷ floors) low =
    let here : f ≤ most = low 0 (omega arith) in
    (omega (arith, here), all_prefix count base most floors (λ j within. low (suc j) (omega (arith, within))))

most_each : (commands packets k : ℕ) (floors : List ℕ) (met : List Met) (told : List fill.Met)
    → map (λ (m : fill.Met). m.commands) told ≡ map (λ (m : Met). commands + m.commands) met
    → map (λ (m : fill.Met). m.number) told ≡ counted (packets + k) (length met)
    → ((i : ℕ) → i < length met → count_at met i ≤ length floors)
    → ((i j : ℕ) → i < length met → j < count_at met i → get_or floors j 0 ≤ k + i)
    → AllByRecursion (MeetsFloors commands (map (λ (f : ℕ). packets + f) floors)) told
most_each commands packets k floors met [] same numbers few low = tt
most_each commands packets k floors [] (t ∷ told) same numbers few low =
    absurd (let long = ap length same in omega (arith, long))
most_each commands packets k floors (m ∷ met) (t ∷ told) same numbers few low =
    let counts = first_of_two _ _ _ _ same in
    let count : t.commands ≡ commands + m.commands = counts.0 in
    let numbered = first_of_two _ _ _ _ numbers in
    let number : t.number ≡ packets + k = numbered.0 in
    let here : m.commands ≤ length floors = few 0 (omega arith) in
    let long = length-map floors (λ (f : ℕ). packets + f) in
    let n : t.commands - commands ≡ m.commands = omega (arith, count) in
    let prefix = all_prefix m.commands packets k floors
    (λ j within. let at = low 0 j (omega arith) within in omega (arith, at)) in
    let all : AllByRecursion (λ floor. floor ≤ t.number)
    (take (t.commands - commands) (map (λ (f : ℕ). packets + f) floors)) =
    subst (λ c. AllByRecursion (λ floor. floor ≤ t.number) (take c (map (λ (f : ℕ). packets + f) floors))) (sym n)
    (subst (λ bound. AllByRecursion (λ floor. floor ≤ bound)
    (take m.commands (map (λ (f : ℕ). packets + f) floors))) (sym number) prefix) in
    let next : packets + k + 1 ≡ packets + (k + 1) = omega arith in (
      (
        omega (arith, count, here, long),
        All-from_recursion (λ floor. floor ≤ t.number)
            (take (t.commands - commands) (map (λ (f : ℕ). packets + f) floors)) all,
      ),
      most_each commands packets (k + 1) floors met told counts.1
          (numbered.1 ∙ ap (λ first. counted first (length met)) next)
          (λ i within. few (suc i) (omega (arith, within)))
          (λ i j within below.
          let at = low (suc i) j (omega (arith, within)) below in omega (arith, at)),
    )

-- what is left to be told of a slot at the start of an epoch with the outcomes of a schedule
floor-map : (commands : List CommandTags) (j : ℕ)
    → get_or (map (λ (tags : CommandTags). tags.floor) commands) j 0 ≡ floor_at commands j
floor-map [] j = refl
floor-map (tags ∷ commands) zero = refl
floor-map (tags ∷ commands) (suc j) = floor-map commands j

pub slot_left : (rooms : Rooms) (bounds : ℕ → ℕ) (turns : List (List ℕ)) (first : ℕ) (made : List Meaning)
    (entries : List LineEntry) (slot commands packets : ℕ) (told : List fill.Met)
    → AnswersAll first made entries
    → map outcome_told entries ≡ outcomes rooms bounds start (driven made turns)
    → map (λ (m : fill.Met). m.commands) told
    ≡ map (λ (m : Met). commands + m.commands) (mets_driven rooms bounds turns made slot)
    → map (λ (m : fill.Met). m.number) told
    ≡ counted packets (length (packets_accepted slot (lines_told made entries)))
    → SlotLeft slot commands packets (command_floors slot packets [] (lines_told made entries)) []
    (lines_told made entries) told
slot_left rooms bounds turns first made entries slot commands packets told each outcomes_are counts numbers =
    let lines = lines_told made entries in
    let after = slot_behind rooms bounds (driven made turns) slot in
    let done = each_packet_is_handled rooms bounds (driven made turns) slot in
    let handles = done.handles in
    let floors = floors_told slot first [] no_account made entries turns each
    (record { commands = refl; packets = refl; commands_before = refl; packets_before = refl }) in
    let account_is = ap (account_of slot no_account (driven made turns)) (sym outcomes_are) in
    let commands_are = done.commands ∙ ap (λ (a : Account). a.commands) account_is ∙ floors.commands in
    let packets_are = done.packets ∙ ap (λ (a : Account). a.packets) account_is ∙ floors.packets in
    let many = done.all ∙ sym (ap length done.packets) in
    let number_count = sym (length-map told (λ (m : fill.Met). m.commands)) ∙ ap length counts
    ∙ length-map after.met (λ (m : Met). commands + m.commands) in
    let told_count = sym (length-map told (λ (m : fill.Met). m.number)) ∙ ap length numbers
    ∙ length-counted packets (length (packets_accepted slot lines)) in
    let same_count : length (packets_accepted slot lines) ≡ length after.met = sym told_count ∙ number_count in
    let none : packets ≡ packets + 0 = omega arith in
    let floor_count = length-map after.commands (λ (tags : CommandTags). tags.floor) in
    let known = handles.known in
    record {
      least = subst (λ floors. AllZip IsLeast floors told)
          (ap (map (λ (f : ℕ). commands + f)) packets_are ∙ packet_floors-base slot commands [] lines)
          (least_zip commands after.packets after.met told counts many handles.least);
      most = subst (λ floors. AllByRecursion (MeetsFloors commands floors) told)
          (ap (map (λ (f : ℕ). packets + f)) commands_are ∙ command_floors-base slot packets [] lines)
          (most_each commands packets 0 (map (λ (tags : CommandTags). tags.floor) after.commands) after.met told counts
          (numbers ∙ ap (λ n. counted packets n) same_count ∙ ap (λ k. counted k (length after.met)) none)
          (λ i within. let count = handles.within i within in omega (arith, count, known, floor_count))
          (λ i j within below.
          let at = floor-map after.commands j in
          let low = handles.most i j within below in
          omega (arith, at, low)));
      numbers = numbers ∙ ap (λ k. counted k (length (packets_accepted slot lines))) none;
    }

driven_left : (rooms : Rooms) (bounds : ℕ → ℕ) (turns : List (List ℕ)) (slots first : ℕ) (before : Histories)
    (made : List Meaning) (told : EpochReport)
    → IsDriven rooms bounds turns slots first before made told
    → Bounded before (told_in made told) [] (told_in made told) (mets_told told.lines)
driven_left rooms bounds turns slots first before made told is slot =
    slot_left rooms bounds turns first made told.lines slot (count_before before slot) (packets_before before slot)
    (mets_told told.lines slot) is.one_each is.outcomes_are
    (counts_of slot told.lines ∙ is.counts slot) (numbers_of slot told.lines ∙ is.packet_numbers slot)

pub driven_lawful : DrivenEpochsAreLawful
driven_lawful slices room lane bounds turns slots first before made told is =
    let lines = driven_lines slices room lane bounds turns slots first before made told is in
    record {
      one_each = is.one_each;
      command_numbers = is.command_numbers;
      packet_numbers = is.packet_numbers;
      counts_rise = counts_rise (record { room = room; lane = lane }) bounds turns slots first before made told is;
      bounds = bounds_from slices room lane first before (told_in made told) [] made told.lines is.one_each refl
          (driven_left (record { room = room; lane = lane }) bounds turns slots first before made told is);
      replies = is.replies;
      verdicts = is.verdicts;
      effects = is.effects;
      rows = is.rows;
      refusals = lines.refusals;
      parking = lines.parking;
    }
