-- Refusals, parking and floors look at no number, count, reply, verdict or place of an entry: they are the same of
-- outlines.
use Rattle.std.proofs.Common.{◌≡◌, ℕ, ◌+◌, ◌*◌, ◌≤◌, ◌⊎◌, ◌||◌, Bool, true, false, IsTrue, All, Option, Some, None, List, [], ◌∷◌, ◌++◌, map, length, cond, refl, sym, ap, subst, ◌∙◌, arith}
use Rattle.std.specs.List.{filter_map, cons_option, count_by, fold}
use Rattle.std.specs.Option.{option_map}
use Rattle.std.proofs.lemmas.List.{map-append}
use Rattle.std.proofs.lemmas.List.Elements.{filter_map-append}
use Rattle.std.proofs.lemmas.List.Folds.{fold-map}
use Rattle.demux.specs.Trace.{Meaning}
use Rattle.demux.specs.declared.packet.LentPacket.{LentPacket}
use Rattle.pc_base.specs.declared.packet.Verdict.TheVariants.{NoBearer}
use Rattle.pc_base.specs.declared.reply.Outcome.TheVariants.{Done}
use Rattle.report_lines.specs.Records.{Answered, PacketTold}
use Rattle.report_lines.specs.declared.entry.LineEntry.{LineEntry}
use Rattle.report_lines.specs.declared.entry.LineEntry.TheVariants as line
use Rattle.lawful_run.specs.Accepted.{Placed, accepted_command, accepted_packet, commands_accepted, packets_accepted, command_count, is_refused, command_for, packet_for}
use Rattle.lawful_run.specs.Setup.{sliced}
use Rattle.lawful_run.specs.LinesTold.{LineTold, lines_told, EachFrom}
use Rattle.lawful_run.specs.Moves.{moves, is_moved, before_last_move, behind_last_move}
use Rattle.lawful_run.specs.Parking.{ParkedBehindMoves, ParkedAs, MayPark, parked_by, parked_told}
use Rattle.lawful_run.specs.Refusals.{RefusedWhereFull, RefusedAs, MayRefuse, is_packet, packet_count, is_move, move_count, slot_of, slot_count, different}
use Rattle.lawful_run.specs.Filling.{Replied, Met, Replies, Mets, answered_with, judged_with, fill, filled, replied_slot, met_slot, others_of}
use Rattle.lawful_run.specs.Floors.{command_floor, packet_floor, floor_for, command_floors, packet_floors}

abbrev pub blank : LineEntry → LineEntry
blank (line.N noted) = line.N noted
blank (line.C answered) = line.C (record answered { number = 0; reply = record { outcome = Done; message = None } })
blank (line.P judged) = line.P (record judged { number = 0; commands = 0; verdict = NoBearer; place = None })
blank (line.F refused) = line.F refused

abbrev pub outline : LineTold → LineTold
outline told = record { meaning = told.meaning; entry = blank told.entry }

-- an entry and what fills it in have one outline
answered_blank : (answered : Answered) (replies : List Replied)
    → blank (line.C (answered_with answered replies)) ≡ blank (line.C answered)
answered_blank answered [] = refl
answered_blank answered (first ∷ others) = refl

judged_blank : (judged : PacketTold) (mets : List Met)
    → blank (line.P (judged_with judged mets)) ≡ blank (line.P judged)
judged_blank judged [] = refl
judged_blank judged (first ∷ others) = refl

pub fill_blank : (entry : LineEntry) (replies : Replies) (mets : Mets) → blank (fill entry replies mets) ≡ blank entry
fill_blank (line.N noted) replies mets = refl
fill_blank (line.C answered) replies mets = answered_blank answered (replies answered.slot)
fill_blank (line.P judged) replies mets = judged_blank judged (mets judged.slot)
fill_blank (line.F refused) replies mets = refl

pub filled_outlined : (made : List Meaning) (entries : List LineEntry) (replies : Replies) (mets : Mets)
    → map outline (lines_told made (filled entries replies mets)) ≡ map outline (lines_told made entries)
filled_outlined [] entries replies mets = refl
filled_outlined (now ∷ made) [] replies mets = refl
filled_outlined (now ∷ made) (entry ∷ entries) replies mets =
    let here : outline (record { meaning = now; entry = fill entry replies mets })
    ≡ outline (record { meaning = now; entry = entry }) =
    ap (λ (e : LineEntry). record { meaning = now; entry = e }) (fill_blank entry replies mets) in
    let rest = filled_outlined made entries (others_of (replied_slot entry) replies) (others_of (met_slot entry) mets) in
    λ i. here i ∷ rest i

-- what lines tell one by one
filter_map-outlined : {Y : Type 0} (f : LineTold → Option Y) → ((told : LineTold) → f (outline told) ≡ f told)
    → (lines : List LineTold) → filter_map f (map outline lines) ≡ filter_map f lines
filter_map-outlined f same [] = refl
filter_map-outlined f same (now ∷ later) =
    let here = same now in
    let rest = filter_map-outlined f same later in
    λ i. cons_option (here i) (rest i)

count_by-outlined : (test : LineTold → Bool) → ((told : LineTold) → test (outline told) ≡ test told)
    → (lines : List LineTold) → count_by test (map outline lines) ≡ count_by test lines
count_by-outlined test same lines =
    fold-map (λ a x. a + cond (test x) 1 0) outline 0 lines
    ∙ (λ i. fold (λ a x. a + cond (same x i) 1 0) 0 lines)

refused-blank : (entry : LineEntry) → is_refused (blank entry) ≡ is_refused entry
refused-blank (line.N noted) = refl
refused-blank (line.C answered) = refl
refused-blank (line.P judged) = refl
refused-blank (line.F refused) = refl

command-outlined : (slot : ℕ) (told : LineTold) → accepted_command slot (outline told) ≡ accepted_command slot told
command-outlined slot told = ap (λ refused. cond refused None (command_for slot told.meaning)) (refused-blank told.entry)

pub commands_accepted-outlined : (slot : ℕ) (lines : List LineTold)
    → commands_accepted slot (map outline lines) ≡ commands_accepted slot lines
commands_accepted-outlined slot lines = filter_map-outlined (accepted_command slot) (command-outlined slot) lines

floor_map : (own : Option LentPacket) (commands others floor : ℕ)
    → floor_for {X = Placed} (option_map {T = LentPacket} {U = Placed} (λ p. record { commands = commands; packet = p }) own) floor
    ≡ floor_for {X = Placed} (option_map {T = LentPacket} {U = Placed} (λ p. record { commands = others; packet = p }) own) floor
floor_map None commands others floor = refl
floor_map (Some p) commands others floor = refl

packet-outlined_by : (slot : ℕ) (meaning : Meaning) (entry : LineEntry) (floor : ℕ)
    → floor_for (accepted_packet slot (outline (record { meaning = meaning; entry = entry }))) floor
    ≡ floor_for (accepted_packet slot (record { meaning = meaning; entry = entry })) floor
packet-outlined_by slot meaning (line.N noted) floor = refl
packet-outlined_by slot meaning (line.C answered) floor = refl
packet-outlined_by slot meaning (line.P judged) floor = floor_map (packet_for slot meaning) 0 judged.commands floor
packet-outlined_by slot meaning (line.F refused) floor = refl

packet-outlined : (slot : ℕ) (told : LineTold) (floor : ℕ)
    → floor_for (accepted_packet slot (outline told)) floor ≡ floor_for (accepted_packet slot told) floor
packet-outlined slot told floor = packet-outlined_by slot told.meaning told.entry floor

-- how many there are of something, by any floors
length-floors_for : {X : Type 0} (own : Option X) (xs : List X) (floors : List ℕ) (floor : ℕ)
    → length xs ≡ length floors → length (cons_option own xs) ≡ length (cons_option (floor_for own floor) floors)
length-floors_for None xs floors floor same = same
length-floors_for (Some x) xs floors floor same = omega (arith, same)

packets-floors : (slot : ℕ) (lines : List LineTold)
    → length (packets_accepted slot lines)
    ≡ length (filter_map (λ told. floor_for (accepted_packet slot told) 0) lines)
packets-floors slot [] = refl
packets-floors slot (now ∷ later) =
    length-floors_for (accepted_packet slot now) (packets_accepted slot later)
    (filter_map (λ told. floor_for (accepted_packet slot told) 0) later) 0 (packets-floors slot later)

pub packets_accepted-outlined : (slot : ℕ) (lines : List LineTold)
    → length (packets_accepted slot (map outline lines)) ≡ length (packets_accepted slot lines)
packets_accepted-outlined slot lines =
    packets-floors slot (map outline lines)
    ∙ ap length (filter_map-outlined (λ told. floor_for (accepted_packet slot told) 0)
    (λ told. packet-outlined slot told 0) lines)
    ∙ sym (packets-floors slot lines)

-- moves
pub is_moved-outlined : (slot : ℕ) (lines : List LineTold) → is_moved slot (map outline lines) ≡ is_moved slot lines
is_moved-outlined slot [] = refl
is_moved-outlined slot (now ∷ later) =
    ap (λ rest. moves slot now || rest) (is_moved-outlined slot later)

map-cond : (test : Bool) (now : LineTold) (lines : List LineTold)
    → map outline (cond test (now ∷ lines) []) ≡ cond test (outline now ∷ map outline lines) []
map-cond true now lines = refl
map-cond false now lines = refl

pub before_last_move-outlined : (slot : ℕ) (lines : List LineTold)
    → before_last_move slot (map outline lines) ≡ map outline (before_last_move slot lines)
before_last_move-outlined slot [] = refl
before_last_move-outlined slot (now ∷ later) =
    let rest = before_last_move-outlined slot later in
    let moved = is_moved-outlined slot later in
    (λ i. cond (moved i) (outline now ∷ rest i) [])
    ∙ sym (map-cond (is_moved slot later) now (before_last_move slot later))

map-cond_list : (test : Bool) (some others : List LineTold)
    → map outline (cond test some others) ≡ cond test (map outline some) (map outline others)
map-cond_list true some others = refl
map-cond_list false some others = refl

behind_last_move-outlined : (slot : ℕ) (lines : List LineTold)
    → behind_last_move slot (map outline lines) ≡ map outline (behind_last_move slot lines)
behind_last_move-outlined slot [] = refl
behind_last_move-outlined slot (now ∷ later) =
    let rest = behind_last_move-outlined slot later in
    let moved = is_moved-outlined slot (now ∷ later) in
    (λ i. cond (moved i) (rest i) (outline now ∷ map outline later))
    ∙ sym (map-cond_list (is_moved slot (now ∷ later)) (behind_last_move slot later) (now ∷ later))

-- floors
command_floor-outlined : (slot packets : ℕ) (before : List LineTold)
    → command_floor slot packets (map outline before) ≡ command_floor slot packets before
command_floor-outlined slot packets before =
    ap (λ lines. packets + length (packets_accepted slot lines)) (before_last_move-outlined slot before)
    ∙ ap (λ n. packets + n) (packets_accepted-outlined slot (before_last_move slot before))

packet_floor-outlined : (slot commands : ℕ) (before : List LineTold)
    → packet_floor slot commands (map outline before) ≡ packet_floor slot commands before
packet_floor-outlined slot commands before =
    ap (λ lines. commands + command_count slot lines) (before_last_move-outlined slot before)
    ∙ ap (λ cs. commands + length cs) (commands_accepted-outlined slot (before_last_move slot before))

pub command_floors-outlined : (slot packets : ℕ) (before later : List LineTold)
    → command_floors slot packets (map outline before) (map outline later) ≡ command_floors slot packets before later
command_floors-outlined slot packets before [] = refl
command_floors-outlined slot packets before (now ∷ later) =
    let floor = command_floor-outlined slot packets before in
    let own = command-outlined slot now in
    let rest = ap (λ lines. command_floors slot packets lines (map outline later))
    (sym (map-append outline before (now ∷ [])))
    ∙ command_floors-outlined slot packets (before ++ now ∷ []) later in
    λ i. cons_option (floor_for (own i) (floor i)) (rest i)

pub packet_floors-outlined : (slot commands : ℕ) (before later : List LineTold)
    → packet_floors slot commands (map outline before) (map outline later) ≡ packet_floors slot commands before later
packet_floors-outlined slot commands before [] = refl
packet_floors-outlined slot commands before (now ∷ later) =
    let floor = ap (λ f. floor_for (accepted_packet slot (outline now)) f) (packet_floor-outlined slot commands before)
    ∙ packet-outlined slot now (packet_floor slot commands before) in
    let rest = ap (λ lines. packet_floors slot commands lines (map outline later))
    (sym (map-append outline before (now ∷ [])))
    ∙ packet_floors-outlined slot commands (before ++ now ∷ []) later in
    λ i. cons_option (floor i) (rest i)

-- refusals
packet_count-outlined : (lines : List LineTold) → packet_count (map outline lines) ≡ packet_count lines
packet_count-outlined lines =
    count_by-outlined (λ told. cond (is_refused told.entry) false (is_packet told.meaning))
    (λ told. ap (λ refused. cond refused false (is_packet told.meaning)) (refused-blank told.entry)) lines

move_count-outlined : (lines : List LineTold) → move_count (map outline lines) ≡ move_count lines
move_count-outlined lines = count_by-outlined (λ told. is_move told.meaning) (λ told. refl) lines

slot_count-outlined : (lines : List LineTold) (now : LineTold)
    → slot_count (map outline lines ++ now ∷ []) ≡ slot_count (lines ++ now ∷ [])
slot_count-outlined lines now =
    ap different (filter_map-append slot_of (map outline lines) (now ∷ [])
    ∙ ap (λ slots. slots ++ filter_map slot_of (now ∷ [])) (filter_map-outlined slot_of (λ told. refl) lines)
    ∙ sym (filter_map-append slot_of lines (now ∷ [])))

refusal-outlined : (slices room lane slot : ℕ) (packet : Bool) (before : List LineTold) (now : LineTold)
    → MayRefuse (sliced slices room lane) slot packet (map outline before) now
    ≡ MayRefuse (sliced slices room lane) slot packet before now
refusal-outlined slices room lane slot true before now =
    let packets = packet_count-outlined before in
    let slots = slot_count-outlined before now in
    let moved = move_count-outlined before in
    let is = is_moved-outlined slot before in
    let queued = packets_accepted-outlined slot before in
    λ i. (lane ≤ packets i + slots i + 2 * moved i) ⊎ (IsTrue (is i) × (room ≤ queued i))
refusal-outlined slices room lane slot false before now =
    let commands = commands_accepted-outlined slot before in
    λ i. room ≤ length (commands i)

-- lines with one outline refuse alike
refuse_alike : (slices room lane slot : ℕ) (packet : Bool) (before others : List LineTold) (now : LineTold)
    → map outline before ≡ map outline others
    → MayRefuse (sliced slices room lane) slot packet before now
    → MayRefuse (sliced slices room lane) slot packet others now
refuse_alike slices room lane slot packet before others now same may =
    subst (λ (X : Type 0). X)
    (sym (refusal-outlined slices room lane slot packet before now)
    ∙ ap (λ lines. MayRefuse (sliced slices room lane) slot packet lines now) same
    ∙ refusal-outlined slices room lane slot packet others now) may

entry_refused : (slices room lane : ℕ) (before others : List LineTold) (now : Meaning) (entry : LineEntry)
    (replies : Replies) (mets : Mets)
    → map outline before ≡ map outline others
    → RefusedAs (sliced slices room lane) before (record { meaning = now; entry = entry }) entry
    → RefusedAs (sliced slices room lane) others (record { meaning = now; entry = fill entry replies mets })
    (fill entry replies mets)
entry_refused slices room lane before others now (line.N noted) replies mets same may = tt
entry_refused slices room lane before others now (line.C answered) replies mets same may = tt
entry_refused slices room lane before others now (line.P judged) replies mets same may = tt
entry_refused slices room lane before others now (line.F refused) replies mets same may =
    refuse_alike slices room lane refused.slot refused.packet before others
    (record { meaning = now; entry = line.F refused }) same may

-- a line more on both sides
pub one_more : (before others : List LineTold) (now : Meaning) (entry : LineEntry) (replies : Replies) (mets : Mets)
    → map outline before ≡ map outline others
    → map outline (before ++ record { meaning = now; entry = entry } ∷ [])
    ≡ map outline (others ++ record { meaning = now; entry = fill entry replies mets } ∷ [])
one_more before others now entry replies mets same =
    map-append outline before (record { meaning = now; entry = entry } ∷ [])
    ∙ (λ i. same i ++ record { meaning = now; entry = sym (fill_blank entry replies mets) i } ∷ [])
    ∙ sym (map-append outline others (record { meaning = now; entry = fill entry replies mets } ∷ []))

pub refusals_filled : (slices room lane : ℕ) (before others : List LineTold) (made : List Meaning)
    (entries : List LineEntry) (replies : Replies) (mets : Mets)
    → map outline before ≡ map outline others
    → EachFrom (RefusedWhereFull (sliced slices room lane)) before (lines_told made entries)
    → EachFrom (RefusedWhereFull (sliced slices room lane)) others (lines_told made (filled entries replies mets))
refusals_filled slices room lane before others [] entries replies mets same each = tt
refusals_filled slices room lane before others (now ∷ made) [] replies mets same each = tt
refusals_filled slices room lane before others (now ∷ made) (entry ∷ entries) replies mets same each = (
  entry_refused slices room lane before others now entry replies mets same each.0,
  refusals_filled slices room lane _ _ made entries (others_of (replied_slot entry) replies)
      (others_of (met_slot entry) mets) (one_more before others now entry replies mets same) each.1,
)

-- parking
parked-blank : (slot : ℕ) (entry : LineEntry) → parked_by slot (blank entry) ≡ parked_by slot entry
parked-blank slot (line.N noted) = refl
parked-blank slot (line.C answered) = refl
parked-blank slot (line.P judged) = refl
parked-blank slot (line.F refused) = refl

parking-outlined : (parked : Bool) (slot : ℕ) (before : List LineTold)
    → MayPark parked slot (map outline before) ≡ MayPark parked slot before
parking-outlined false slot before = refl
parking-outlined true slot before =
    let moved = is_moved-outlined slot before in
    let told = ap (filter_map (parked_told slot)) (behind_last_move-outlined slot before)
    ∙ filter_map-outlined (parked_told slot) (λ told. parked-blank slot told.entry) (behind_last_move slot before) in
    λ i. IsTrue (moved i) × All (λ parked. IsTrue parked) (told i)

park_alike : (parked : Bool) (slot : ℕ) (before others : List LineTold) → map outline before ≡ map outline others
    → MayPark parked slot before → MayPark parked slot others
park_alike parked slot before others same may =
    subst (λ (X : Type 0). X)
    (sym (parking-outlined parked slot before) ∙ ap (MayPark parked slot) same ∙ parking-outlined parked slot others)
    may

judged_parked : (judged : PacketTold) (mets : List Met) (before others : List LineTold)
    → map outline before ≡ map outline others
    → MayPark judged.parked judged.slot before
    → MayPark (judged_with judged mets).parked (judged_with judged mets).slot others
judged_parked judged [] before others same may = park_alike judged.parked judged.slot before others same may
judged_parked judged (first ∷ rest) before others same may =
    park_alike judged.parked judged.slot before others same may

entry_parked : (before others : List LineTold) (entry : LineEntry) (replies : Replies) (mets : Mets)
    → map outline before ≡ map outline others
    → ParkedAs before entry → ParkedAs others (fill entry replies mets)
entry_parked before others (line.N noted) replies mets same may = tt
entry_parked before others (line.C answered) replies mets same may = tt
entry_parked before others (line.P judged) replies mets same may =
    judged_parked judged (mets judged.slot) before others same may
entry_parked before others (line.F refused) replies mets same may = tt

pub parking_filled : (before others : List LineTold) (made : List Meaning) (entries : List LineEntry)
    (replies : Replies) (mets : Mets)
    → map outline before ≡ map outline others
    → EachFrom ParkedBehindMoves before (lines_told made entries)
    → EachFrom ParkedBehindMoves others (lines_told made (filled entries replies mets))
parking_filled before others [] entries replies mets same each = tt
parking_filled before others (now ∷ made) [] replies mets same each = tt
parking_filled before others (now ∷ made) (entry ∷ entries) replies mets same each = (
  entry_parked before others entry replies mets same each.0,
  parking_filled _ _ made entries (others_of (replied_slot entry) replies) (others_of (met_slot entry) mets)
      (one_more before others now entry replies mets same) each.1,
)
