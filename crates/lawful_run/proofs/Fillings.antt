-- What the entries of a slot tell, once they are filled, is what was told of the slot.
use Rattle.std.proofs.Common.{◌≡◌, ℕ, suc, ◌+◌, ◌==◌, Bool, true, false, Option, Some, None, List, [], ◌∷◌, map, length, drop, cond, refl, ap, subst, ◌∙◌, arith}
use Rattle.std.specs.List.{filter_map, cons_option}
use Rattle.std.specs.Option.{option_map}
use Rattle.std.proofs.lemmas.Bool.{eqb-true}
use Rattle.control_steps.specs.declared.command.CommandKind.{CommandKind}
use Rattle.demux.specs.Trace.{Meaning, command, packet, move, note}
use Rattle.demux.specs.declared.packet.LentPacket.{LentPacket}
use Rattle.report_lines.specs.Records.{Noted, Answered, PacketTold}
use Rattle.report_lines.specs.declared.entry.LineEntry.{LineEntry}
use Rattle.report_lines.specs.declared.entry.LineEntry.TheVariants as line
use Rattle.report_lines.specs.declared.entry.Refusal.{Refusal}
use Rattle.lawful_run.specs.Accepted.{Placed, accepted_command, accepted_packet, commands_accepted, packets_accepted, command_count}
use Rattle.lawful_run.specs.Answers.{Answers, AnswersAll}
use Rattle.lawful_run.specs.LinesTold.{lines_told}
use Rattle.lawful_run.specs.Telling.{command_number, packet_number, commands_told, reply_told, verdict_told}
use Rattle.lawful_run.specs.Filling.{Replied, Met, Replies, Mets, answered_with, judged_with, fill, filled, replied_slot, met_slot, others_of}
use Rattle.lawful_run.specs.Joined.{with_counts, counts_met}

-- an entry answers its line in one of six ways
pub answer_cases : (P : Meaning → LineEntry → Type 0) (n : ℕ)
    → ((text : List ℕ) (noted : Noted) → P (note text) (line.N noted))
    → ((slot slice : ℕ) (text : List ℕ) (noted : Noted) → P (move slot slice text) (line.N noted))
    → ((c : CommandKind) (answered : Answered) → P (command answered.slot c) (line.C answered))
    → ((slot : ℕ) (c : CommandKind) (refused : Refusal) → P (command slot c) (line.F refused))
    → ((p : LentPacket) (judged : PacketTold) → P (packet judged.slot p) (line.P judged))
    → ((slot : ℕ) (p : LentPacket) (refused : Refusal) → P (packet slot p) (line.F refused))
    → (meaning : Meaning) (entry : LineEntry) → Answers n meaning entry → P meaning entry
answer_cases P n noted moved answered no_command judged no_packet (note text) (line.N it) is = noted text it
answer_cases P n noted moved answered no_command judged no_packet (note text) (line.C it) is = absurd is
answer_cases P n noted moved answered no_command judged no_packet (note text) (line.P it) is = absurd is
answer_cases P n noted moved answered no_command judged no_packet (note text) (line.F it) is = absurd is
answer_cases P n noted moved answered no_command judged no_packet (move slot slice text) (line.N it) is =
    moved slot slice text it
answer_cases P n noted moved answered no_command judged no_packet (move slot slice text) (line.C it) is = absurd is
answer_cases P n noted moved answered no_command judged no_packet (move slot slice text) (line.P it) is = absurd is
answer_cases P n noted moved answered no_command judged no_packet (move slot slice text) (line.F it) is = absurd is
answer_cases P n noted moved answered no_command judged no_packet (command slot c) (line.N it) is = absurd is
answer_cases P n noted moved answered no_command judged no_packet (command slot c) (line.C it) is =
    subst (λ own. P (command own c) (line.C it)) is.1 (answered c it)
answer_cases P n noted moved answered no_command judged no_packet (command slot c) (line.P it) is = absurd is
answer_cases P n noted moved answered no_command judged no_packet (command slot c) (line.F it) is = no_command slot c it
answer_cases P n noted moved answered no_command judged no_packet (packet slot p) (line.N it) is = absurd is
answer_cases P n noted moved answered no_command judged no_packet (packet slot p) (line.C it) is = absurd is
answer_cases P n noted moved answered no_command judged no_packet (packet slot p) (line.P it) is =
    subst (λ own. P (packet own p) (line.P it)) is.1 (judged p it)
answer_cases P n noted moved answered no_command judged no_packet (packet slot p) (line.F it) is = no_packet slot p it

-- lists of slots
length_others : {X : Type 0} (test : Bool) (xs : List X) (number : ℕ) (numbers : List ℕ)
    → length xs ≡ length (cons_option (cond test (Some number) None) numbers)
    → length (cond test (drop 1 xs) xs) ≡ length numbers
length_others true [] number numbers same = absurd (omega (arith, same))
length_others true (x ∷ xs) number numbers same = omega (arith, same)
length_others false xs number numbers same = same

none_told : {X Y : Type 0} (value : X → Y) (told : List X → Option Y) (own : List X)
    → ((x : X) (others : List X) → told (x ∷ others) ≡ None) → told [] ≡ None → told own ≡ None
none_told value told [] each none = none
none_told value told (x ∷ others) each none = each x others

first_told : {X Y : Type 0} (test : Bool) (value : X → Y) (told : List X → Option Y) (own xs : List X) (tail : List Y)
    (n : ℕ)
    → ((x : X) (others : List X) → told (x ∷ others) ≡ cond test (Some (value x)) None)
    → (test ≡ false → told [] ≡ None)
    → (test ≡ true → own ≡ xs)
    → (test ≡ true → length xs ≡ suc n)
    → tail ≡ map value (cond test (drop 1 xs) xs)
    → cons_option (told own) tail ≡ map value xs
first_told true value told own [] tail n each none same some rest =
    let count = some refl in absurd (omega (arith, count))
first_told true value told own (x ∷ xs) tail n each none same some rest =
    let here : told own ≡ Some (value x) = ap told (same refl) ∙ each x xs in
    λ i. cons_option (here i) (rest i)
first_told false value told own xs tail n each none same some rest =
    ap (λ first. cons_option first tail) (none_told value told own each (none refl)) ∙ rest

none_left : {X Y : Type 0} (value : X → Y) (xs : List X) → length xs ≡ 0 → [] ≡ map value xs
none_left value [] none = refl
none_left value (x ∷ xs) none = absurd (omega (arith, none))

-- of commands
module _ {Y : Type 0} (tell : ℕ → LineEntry → Option Y) (value : Replied → Y)
    (of_note : (slot : ℕ) (noted : Noted) → tell slot (line.N noted) ≡ None)
    (of_command : (slot : ℕ) (answered : Answered) (r : Replied)
    → tell slot (line.C (record answered { number = r.number; reply = r.reply }))
    ≡ cond (answered.slot == slot) (Some (value r)) None)
    (of_packet : (slot : ℕ) (judged : PacketTold) → tell slot (line.P judged) ≡ None)
    (of_refusal : (slot : ℕ) (refused : Refusal) → tell slot (line.F refused) ≡ None) where
  pub replied_told : (slot : ℕ) (entries : List LineEntry) (replies : Replies) (mets : Mets)
      → length (replies slot) ≡ length (filter_map (command_number slot) entries)
      → filter_map (tell slot) (filled entries replies mets) ≡ map value (replies slot)
  replied_told slot [] replies mets same = none_left value (replies slot) same
  replied_told slot (line.N noted ∷ entries) replies mets same =
      ap (λ first. cons_option first (filter_map (tell slot) (filled entries replies mets))) (of_note slot noted)
      ∙ replied_told slot entries replies mets same
  replied_told slot (line.C answered ∷ entries) replies mets same =
      let numbers = filter_map (command_number slot) entries in
      first_told (answered.slot == slot) value (λ own. tell slot (line.C (answered_with answered own)))
      (replies answered.slot) (replies slot)
      (filter_map (tell slot) (filled entries (others_of (Some answered.slot) replies) mets)) (length numbers)
      (λ r others. of_command slot answered r)
      (λ other. of_command slot answered (record { number = answered.number; reply = answered.reply })
      ∙ ap (λ test. cond test (Some (value (record { number = answered.number; reply = answered.reply }))) None) other)
      (λ own. ap replies (eqb-true answered.slot slot own))
      (λ own. same ∙ ap (λ test. length (cons_option (cond test (Some answered.number) None) numbers)) own)
      (replied_told slot entries (others_of (Some answered.slot) replies) mets
      (length_others (answered.slot == slot) (replies slot) answered.number numbers same))
  replied_told slot (line.P judged ∷ entries) replies mets same =
      ap (λ first. cons_option first
      (filter_map (tell slot) (filled entries replies (others_of (Some judged.slot) mets))))
      (of_packet slot (judged_with judged (mets judged.slot)))
      ∙ replied_told slot entries replies (others_of (Some judged.slot) mets) same
  replied_told slot (line.F refused ∷ entries) replies mets same =
      ap (λ first. cons_option first (filter_map (tell slot) (filled entries replies mets))) (of_refusal slot refused)
      ∙ replied_told slot entries replies mets same

-- of packets
module _ {Y : Type 0} (tell : ℕ → LineEntry → Option Y) (value : Met → Y)
    (of_note : (slot : ℕ) (noted : Noted) → tell slot (line.N noted) ≡ None)
    (of_command : (slot : ℕ) (answered : Answered) → tell slot (line.C answered) ≡ None)
    (of_packet : (slot : ℕ) (judged : PacketTold) (m : Met)
    → tell slot (line.P (record judged { number = m.number; commands = m.commands; verdict = m.verdict; place = m.place }))
    ≡ cond (judged.slot == slot) (Some (value m)) None)
    (of_refusal : (slot : ℕ) (refused : Refusal) → tell slot (line.F refused) ≡ None) where
  pub met_told : (slot : ℕ) (entries : List LineEntry) (replies : Replies) (mets : Mets)
      → length (mets slot) ≡ length (filter_map (packet_number slot) entries)
      → filter_map (tell slot) (filled entries replies mets) ≡ map value (mets slot)
  met_told slot [] replies mets same = none_left value (mets slot) same
  met_told slot (line.N noted ∷ entries) replies mets same =
      ap (λ first. cons_option first (filter_map (tell slot) (filled entries replies mets))) (of_note slot noted)
      ∙ met_told slot entries replies mets same
  met_told slot (line.C answered ∷ entries) replies mets same =
      ap (λ first. cons_option first
      (filter_map (tell slot) (filled entries (others_of (Some answered.slot) replies) mets)))
      (of_command slot (answered_with answered (replies answered.slot)))
      ∙ met_told slot entries (others_of (Some answered.slot) replies) mets same
  met_told slot (line.P judged ∷ entries) replies mets same =
      let numbers = filter_map (packet_number slot) entries in
      let own_met : Met = record {
        number = judged.number;
        commands = judged.commands;
        verdict = judged.verdict;
        place = judged.place;
      } in
      first_told (judged.slot == slot) value (λ own. tell slot (line.P (judged_with judged own)))
      (mets judged.slot) (mets slot)
      (filter_map (tell slot) (filled entries replies (others_of (Some judged.slot) mets))) (length numbers)
      (λ m others. of_packet slot judged m)
      (λ other. of_packet slot judged own_met ∙ ap (λ test. cond test (Some (value own_met)) None) other)
      (λ own. ap mets (eqb-true judged.slot slot own))
      (λ own. same ∙ ap (λ test. length (cons_option (cond test (Some judged.number) None) numbers)) own)
      (met_told slot entries replies (others_of (Some judged.slot) mets)
      (length_others (judged.slot == slot) (mets slot) judged.number numbers same))
  met_told slot (line.F refused ∷ entries) replies mets same =
      ap (λ first. cons_option first (filter_map (tell slot) (filled entries replies mets))) (of_refusal slot refused)
      ∙ met_told slot entries replies mets same

-- what the five words of a slot tell
pub command_numbers_told : (slot : ℕ) (entries : List LineEntry) (replies : Replies) (mets : Mets)
    → length (replies slot) ≡ length (filter_map (command_number slot) entries)
    → filter_map (command_number slot) (filled entries replies mets) ≡ map (λ (r : Replied). r.number) (replies slot)
command_numbers_told =
    replied_told command_number (λ (r : Replied). r.number) (λ slot noted. refl) (λ slot answered r. refl)
    (λ slot judged. refl) (λ slot refused. refl)

pub replies_told : (slot : ℕ) (entries : List LineEntry) (replies : Replies) (mets : Mets)
    → length (replies slot) ≡ length (filter_map (command_number slot) entries)
    → filter_map (reply_told slot) (filled entries replies mets) ≡ map (λ (r : Replied). r.reply) (replies slot)
replies_told =
    replied_told reply_told (λ (r : Replied). r.reply) (λ slot noted. refl) (λ slot answered r. refl)
    (λ slot judged. refl) (λ slot refused. refl)

pub packet_numbers_told : (slot : ℕ) (entries : List LineEntry) (replies : Replies) (mets : Mets)
    → length (mets slot) ≡ length (filter_map (packet_number slot) entries)
    → filter_map (packet_number slot) (filled entries replies mets) ≡ map (λ (m : Met). m.number) (mets slot)
packet_numbers_told =
    met_told packet_number (λ (m : Met). m.number) (λ slot noted. refl) (λ slot answered. refl)
    (λ slot judged m. refl) (λ slot refused. refl)

pub counts_told : (slot : ℕ) (entries : List LineEntry) (replies : Replies) (mets : Mets)
    → length (mets slot) ≡ length (filter_map (packet_number slot) entries)
    → filter_map (commands_told slot) (filled entries replies mets) ≡ counts_met (mets slot)
counts_told =
    met_told commands_told (λ (m : Met). m.commands) (λ slot noted. refl) (λ slot answered. refl)
    (λ slot judged m. refl) (λ slot refused. refl)

pub verdicts_told : (slot : ℕ) (entries : List LineEntry) (replies : Replies) (mets : Mets)
    → length (mets slot) ≡ length (filter_map (packet_number slot) entries)
    → filter_map (verdict_told slot) (filled entries replies mets) ≡ map (λ (m : Met). m.verdict) (mets slot)
verdicts_told =
    met_told verdict_told (λ (m : Met). m.verdict) (λ slot noted. refl) (λ slot answered. refl)
    (λ slot judged m. refl) (λ slot refused. refl)

-- as many entries of a slot as were accepted
length_if : {X : Type 0} (test : Bool) (number : ℕ) (x : X) (numbers : List ℕ) (xs : List X)
    → length numbers ≡ length xs
    → length (cons_option (cond test (Some number) None) numbers) ≡ length (cons_option (cond test (Some x) None) xs)
length_if true number x numbers xs same = omega (arith, same)
length_if false number x numbers xs same = same

length_if_map : {X Y : Type 0} (f : X → Y) (test : Bool) (number : ℕ) (x : X) (numbers : List ℕ) (ys : List Y)
    → length numbers ≡ length ys
    → length (cons_option (cond test (Some number) None) numbers)
    ≡ length (cons_option (option_map f (cond test (Some x) None)) ys)
length_if_map f true number x numbers ys same = omega (arith, same)
length_if_map f false number x numbers ys same = same

pub commands_counted : (slot n : ℕ) (made : List Meaning) (entries : List LineEntry) → AnswersAll n made entries
    → length (filter_map (command_number slot) entries) ≡ command_count slot (lines_told made entries)
commands_counted slot n [] [] each = refl
commands_counted slot n [] (entry ∷ entries) each = absurd each
commands_counted slot n (now ∷ made) [] each = absurd each
commands_counted slot n (now ∷ made) (entry ∷ entries) each =
    answer_cases (λ meaning entry. (numbers : List ℕ) (commands : List CommandKind) → length numbers ≡ length commands
    → length (cons_option (command_number slot entry) numbers)
    ≡ length (cons_option (accepted_command slot (record { meaning = meaning; entry = entry })) commands)) n
    (λ text noted numbers commands same. same) (λ own slice text noted numbers commands same. same)
    (λ c answered numbers commands same.
    length_if (answered.slot == slot) answered.number c numbers commands same)
    (λ own c refused numbers commands same. same) (λ p judged numbers commands same. same)
    (λ own p refused numbers commands same. same)
    now entry each.0 (filter_map (command_number slot) entries) (commands_accepted slot (lines_told made entries))
    (commands_counted slot (n + 1) made entries each.1)

pub packets_counted : (slot n : ℕ) (made : List Meaning) (entries : List LineEntry) → AnswersAll n made entries
    → length (filter_map (packet_number slot) entries) ≡ length (packets_accepted slot (lines_told made entries))
packets_counted slot n [] [] each = refl
packets_counted slot n [] (entry ∷ entries) each = absurd each
packets_counted slot n (now ∷ made) [] each = absurd each
packets_counted slot n (now ∷ made) (entry ∷ entries) each =
    answer_cases (λ meaning entry. (numbers : List ℕ) (packets : List Placed) → length numbers ≡ length packets
    → length (cons_option (packet_number slot entry) numbers)
    ≡ length (cons_option (accepted_packet slot (record { meaning = meaning; entry = entry })) packets)) n
    (λ text noted numbers packets same. same) (λ own slice text noted numbers packets same. same)
    (λ c answered numbers packets same. same) (λ own c refused numbers packets same. same)
    (λ p judged numbers packets same.
    length_if_map {X = LentPacket} {Y = Placed} (λ q. record { commands = judged.commands; packet = q })
    (judged.slot == slot) judged.number p numbers packets same)
    (λ own p refused numbers packets same. same)
    now entry each.0 (filter_map (packet_number slot) entries) (packets_accepted slot (lines_told made entries))
    (packets_counted slot (n + 1) made entries each.1)

-- a filled entry answers its line
answered_fits : (n : ℕ) (meaning : Meaning) (answered : Answered) (replies : List Replied)
    → Answers n meaning (line.C answered) → Answers n meaning (line.C (answered_with answered replies))
answered_fits n meaning answered [] is = is
answered_fits n (note text) answered (first ∷ others) is = is
answered_fits n (move slot slice text) answered (first ∷ others) is = is
answered_fits n (command slot c) answered (first ∷ others) is = is
answered_fits n (packet slot p) answered (first ∷ others) is = is

judged_fits : (n : ℕ) (meaning : Meaning) (judged : PacketTold) (mets : List Met)
    → Answers n meaning (line.P judged) → Answers n meaning (line.P (judged_with judged mets))
judged_fits n meaning judged [] is = is
judged_fits n (note text) judged (first ∷ others) is = is
judged_fits n (move slot slice text) judged (first ∷ others) is = is
judged_fits n (command slot c) judged (first ∷ others) is = is
judged_fits n (packet slot p) judged (first ∷ others) is = is

fill_fits : (n : ℕ) (meaning : Meaning) (entry : LineEntry) (replies : Replies) (mets : Mets)
    → Answers n meaning entry → Answers n meaning (fill entry replies mets)
fill_fits n meaning (line.N noted) replies mets is = is
fill_fits n meaning (line.C answered) replies mets is =
    answered_fits n meaning answered (replies answered.slot) is
fill_fits n meaning (line.P judged) replies mets is = judged_fits n meaning judged (mets judged.slot) is
fill_fits n meaning (line.F refused) replies mets is = is

pub filled_answers : (n : ℕ) (made : List Meaning) (entries : List LineEntry) (replies : Replies) (mets : Mets)
    → AnswersAll n made entries → AnswersAll n made (filled entries replies mets)
filled_answers n [] [] replies mets each = tt
filled_answers n [] (entry ∷ entries) replies mets each = absurd each
filled_answers n (now ∷ made) [] replies mets each = absurd each
filled_answers n (now ∷ made) (entry ∷ entries) replies mets each = (
  fill_fits n now entry replies mets each.0,
  filled_answers (n + 1) made entries (others_of (replied_slot entry) replies) (others_of (met_slot entry) mets) each.1,
)

-- the packets of filled entries are those of open ones, with their counts
placed_first : (test : Bool) (own xs : List Met) (judged : PacketTold) (p : LentPacket) (numbers : List ℕ)
    (rest others : List Placed)
    → (test ≡ true → own ≡ xs)
    → length xs ≡ length (cons_option (cond test (Some judged.number) None) numbers)
    → others ≡ with_counts (counts_met (cond test (drop 1 xs) xs)) rest
    → cons_option (option_map {T = LentPacket} {U = Placed} (λ q. record { commands = (judged_with judged own).commands; packet = q })
    (cond test (Some p) None)) others
    ≡ with_counts (counts_met xs)
    (cons_option (option_map {T = LentPacket} {U = Placed} (λ q. record { commands = judged.commands; packet = q })
    (cond test (Some p) None)) rest)
placed_first true own [] judged p numbers rest others same some is = absurd (omega (arith, some))
placed_first true own (m ∷ mets) judged p numbers rest others same some is =
    let own_is = same refl in
    λ i. record { commands = (judged_with judged (own_is i)).commands; packet = p } ∷ is i
placed_first false own xs judged p numbers rest others same some is = is

none_placed : (mets : List Met) → length mets ≡ 0 → [] ≡ with_counts (counts_met mets) []
none_placed [] none = refl
none_placed (m ∷ mets) none = refl

left_of : (slot : ℕ) (entry : LineEntry) (mets : Mets) (numbers : List ℕ)
    → length (mets slot) ≡ length (cons_option (packet_number slot entry) numbers)
    → length (others_of (met_slot entry) mets slot) ≡ length numbers
left_of slot (line.N noted) mets numbers same = same
left_of slot (line.C answered) mets numbers same = same
left_of slot (line.P judged) mets numbers same =
    length_others (judged.slot == slot) (mets slot) judged.number numbers same
left_of slot (line.F refused) mets numbers same = same

pub packets_filled : (slot n : ℕ) (made : List Meaning) (entries : List LineEntry) (replies : Replies) (mets : Mets)
    → AnswersAll n made entries
    → length (mets slot) ≡ length (filter_map (packet_number slot) entries)
    → packets_accepted slot (lines_told made (filled entries replies mets))
    ≡ with_counts (counts_met (mets slot)) (packets_accepted slot (lines_told made entries))
packets_filled slot n [] [] replies mets each same = none_placed (mets slot) same
packets_filled slot n [] (entry ∷ entries) replies mets each same = absurd each
packets_filled slot n (now ∷ made) [] replies mets each same = absurd each
packets_filled slot n (now ∷ made) (entry ∷ entries) replies mets each same =
    answer_cases (λ meaning entry. (numbers : List ℕ) (rest others : List Placed)
    → length (mets slot) ≡ length (cons_option (packet_number slot entry) numbers)
    → others ≡ with_counts (counts_met (others_of (met_slot entry) mets slot)) rest
    → cons_option (accepted_packet slot (record { meaning = meaning; entry = fill entry replies mets })) others
    ≡ with_counts (counts_met (mets slot))
    (cons_option (accepted_packet slot (record { meaning = meaning; entry = entry })) rest)) n
    (λ text noted numbers rest others some is. is) (λ own slice text noted numbers rest others some is. is)
    (λ c answered numbers rest others some is. is) (λ own c refused numbers rest others some is. is)
    (λ p judged numbers rest others some is.
    placed_first (judged.slot == slot) (mets judged.slot) (mets slot) judged p numbers rest others
    (λ own. ap mets (eqb-true judged.slot slot own)) some is)
    (λ own p refused numbers rest others some is. is)
    now entry each.0 (filter_map (packet_number slot) entries) (packets_accepted slot (lines_told made entries))
    (packets_accepted slot (lines_told made (filled entries (others_of (replied_slot entry) replies)
    (others_of (met_slot entry) mets)))) same
    (packets_filled slot (n + 1) made entries (others_of (replied_slot entry) replies) (others_of (met_slot entry) mets)
    each.1 (left_of slot entry mets (filter_map (packet_number slot) entries) same))
