-- The text of an entry, and the entry that a text is.
use Rattle.std.proofs.Common.{◌≡◌, ◌≢◌, ℕ, ◌^◌, ◌<◌, ◌≤◌, ◌==◌, ◌&&◌, nat_lt, nat_le, Bool, true, false, List, [], ◌∷◌, ◌++◌, length, get_or, All, refl, sym, ap, ◌∙◌, arith, Option, Some, None, if◌then◌else◌}
use Rattle.std.specs.Prelude.{codes, decimal, IfSome}
use Rattle.std.specs.List.{list_all}
use Rattle.std.specs.Option.{option_map}
use Rattle.std.specs.Str.{bytes_eq}
use Rattle.std.proofs.lemmas.Bool.Decides.{nat_tests}
use Rattle.std.proofs.lemmas.List.Elements.{All-cons, All-append}
use Rattle.std.proofs.lemmas.List.Splits.{slice_split_at}
use Rattle.std.proofs.lemmas.List.Sums.{AllPass-from_list_all}
use Rattle.std.proofs.lemmas.Slice.Eq.{bytes_eq-Decides}
use Rattle.charging_book.specs.Rows.{Counters}
use Rattle.charging_book.specs.declared.records.Why.{Why}
use Rattle.charging_book.specs.declared.records.Why.TheVariants.{Volume, Qos, Gone}
use Rattle.hex.specs.Hex.{encode_lower}
use Rattle.pc_base.specs.declared.effect.Effect.{Effect}
use Rattle.pc_base.specs.declared.effect.Effect.TheVariants as effect
use Rattle.pc_base.specs.declared.effect.Fate.{Fate}
use Rattle.pc_base.specs.declared.effect.Fate.TheVariants as fate
use Rattle.pc_base.specs.declared.packet.Place.{Place}
use Rattle.pc_base.specs.declared.packet.Place.TheVariants.{At, Closing}
use Rattle.pc_base.specs.declared.packet.Verdict.{Verdict}
use Rattle.pc_base.specs.declared.packet.Verdict.TheVariants as verdict
use Rattle.pc_base.specs.declared.reply.Outcome.{Outcome}
use Rattle.pc_base.specs.declared.reply.Outcome.TheVariants.{Done, No, Again}
use Rattle.text_fields.specs.Address.{dotted}
use Rattle.text_fields.specs.Fields.{AllLack, space, joined, fields_of}
use Rattle.text_fields.proofs.FieldLemmas.{pieces-joined, joined-pieces}
use Rattle.text_fields.proofs.PlainLemmas.{IsLow, low_decimal, low_address, digits_between}
use Rattle.report_lines.specs.declared.entry.Entry.{Entry}
use Rattle.report_lines.specs.declared.entry.Entry.TheVariants as entry
use Rattle.report_lines.specs.declared.entry.LineEntry.{LineEntry}
use Rattle.report_lines.specs.declared.entry.LineEntry.TheVariants as line
use Rattle.report_lines.specs.declared.entry.Refusal.{Refusal}
use Rattle.report_lines.specs.declared.entry.ChargeEntry.{ChargeEntry}
use Rattle.report_lines.specs.declared.entry.ChargeEntry.TheVariants as charge
use Rattle.report_lines.specs.Ranges.{IsNumber, IsSlot, IsAnswered, IsPacketTold, IsOctets, IsVerdict, IsFate, IsPlace, IsMoment, AreCounters, IsLineEntry, IsEffect, IsChargeEntry, IsEntry}
use Rattle.report_lines.specs.Records.{Noted, Answered, PacketTold, Effected, IsPrintable}
use Rattle.report_lines.specs.Reading.{note_of, answered_of, judged_of, refusal_of, marker_of, settlement_of, slot_row, slot_open, entry_of_fields, entry_of}
use Rattle.report_lines.specs.Text.{verdict_fields, fate_fields, place_fields, counters_fields, counters_of, row_fields, ending, line_fields, effect_fields, charge_fields, entry_text, line_shown, shown}
use Rattle.report_lines.specs.Words.{outcome_word, why_word, message_word, moment_word, place_word, refused_word}
use Rattle.report_lines.proofs.EntryLemmas.{answered_given, answered_taken, judged_given, judged_taken, refusal_given, refusal_taken, marker_given, marker_taken, settlement_given, settlement_taken, slot_row_given, slot_row_taken, slot_open_given, slot_open_taken, note_given, note_taken}

-- an octet that prints and is no space; fields of these alone
abbrev IsGraphic : ℕ → Type 0
IsGraphic octet = (32 < octet) × (octet ≤ 0x7e)

abbrev IsWord : List ℕ → Type 0
IsWord text = All IsGraphic text

abbrev AreWords : List (List ℕ) → Type 0
AreWords [] = Unit {0}
AreWords (text ∷ texts) = IsWord text × AreWords texts

abbrev is_graphic : ℕ → Bool
is_graphic octet = nat_lt 32 octet && nat_le octet 0x7e

graphic : (octet : ℕ) → is_graphic octet ≡ true → IsGraphic octet
graphic octet test = (grind (arith, nat_tests), grind (arith, nat_tests))

word_shown : (word : List ℕ) → list_all is_graphic word ≡ true → IsWord word
word_shown word test k d inside =
    graphic (get_or word k d) (AllPass-from_list_all is_graphic word test k d inside)

low_shown : (text : List ℕ) → All IsLow text → IsWord text
low_shown text low k d inside = (omega (arith, (low k d inside).0), omega (arith, (low k d inside).1))

number_shown : (n : ℕ) → n < 2 ^ 64 → IsWord (decimal n)
number_shown n fits = low_shown (decimal n) (low_decimal n fits)

octets_shown : (octets : List ℕ) → IsOctets octets → IsWord (encode_lower octets)
octets_shown octets is k d inside =
    let digit = digits_between octets is.1 k d inside in (omega (arith, digit.0), omega (arith, digit.1))

address_shown : (address : ℕ) → address < 2 ^ 32 → IsWord (dotted address)
address_shown address fits = low_shown (dotted address) (low_address address fits)

-- such fields have no space
word_lacks : (text : List ℕ) → IsWord text → All (λ octet. octet ≢ 32) text
word_lacks text is k d inside same = omega (arith, (is k d inside).0, same)

words_lack : (texts : List (List ℕ)) → AreWords texts → AllLack space texts
words_lack [] are = tt
words_lack (text ∷ texts) are = (word_lacks text are.0, words_lack texts are.1)

-- and print, with a space between each two
word_prints : (text : List ℕ) → IsWord text → All IsPrintable text
word_prints text is k d inside = (omega (arith, (is k d inside).0), (is k d inside).1)

spaced : (first rest : List ℕ) → IsWord first → All IsPrintable rest → All IsPrintable (first ++ 32 ∷ rest)
spaced first rest is prints =
    All-append IsPrintable first (32 ∷ rest) (word_prints first is)
    (All-cons IsPrintable 32 rest (omega arith, omega arith) prints)

words_print : (first : List ℕ) (texts : List (List ℕ)) → IsWord first → AreWords texts
    → All IsPrintable (joined (first ∷ texts))
words_print first [] is are = word_prints first is
words_print first (text ∷ texts) is are = spaced first (joined (text ∷ texts)) is (words_print text texts are.0 are.1)

outcome_shown : (outcome : Outcome) → IsWord (outcome_word outcome)
outcome_shown Done = word_shown (codes "ok") refl
outcome_shown No = word_shown (codes "no") refl
outcome_shown Again = word_shown (codes "again") refl

why_shown : (why : Why) → IsWord (why_word why)
why_shown Volume = word_shown (codes "volume") refl
why_shown Qos = word_shown (codes "qos") refl
why_shown Gone = word_shown (codes "gone") refl

message_shown : (message : Option (List ℕ)) → IfSome message IsOctets → IsWord (message_word message)
message_shown None is = word_shown (codes "-") refl
message_shown (Some octets) is = octets_shown octets is

moment_shown : (moment : Option ℕ) → IfSome moment IsMoment → IsWord (moment_word moment)
moment_shown None is = word_shown (codes "-") refl
moment_shown (Some at) is = number_shown at (omega (arith, is))

place_shown : (place : Place) → IsPlace place → IsWord (place_word place)
place_shown (At slice) is =
    All-cons IsGraphic 64 (decimal slice) (omega arith, omega arith) (number_shown slice (omega (arith, is)))
place_shown Closing is = word_shown (codes "@-") refl

refused_shown : (packet : Bool) → IsWord (refused_word packet)
refused_shown true = word_shown (codes "p") refl
refused_shown false = word_shown (codes "c") refl

places_shown : (place : Option Place) (parked : Bool) → IfSome place IsPlace → AreWords (place_fields place parked)
places_shown None parked is = tt
places_shown (Some place) true is = (place_shown place is, (word_shown (codes "p") refl, tt))
places_shown (Some place) false is = (place_shown place is, tt)

verdict_shown : (told : Verdict) (rest : List (List ℕ)) → IsVerdict told → AreWords rest
    → AreWords (verdict_fields told rest)
verdict_shown (verdict.Up life octets) rest is more =
    (word_shown (codes "up") refl, (number_shown life is.0, (octets_shown octets is.1, more)))
verdict_shown (verdict.Down life peer octets) rest is more = (
  word_shown (codes "down") refl,
  (
    number_shown life is.0,
    (address_shown peer is.1, (octets_shown octets is.2, more)),
  ),
)
verdict_shown verdict.NoBearer rest is more = (word_shown (codes "nobearer") refl, more)
verdict_shown verdict.Spoof rest is more = (word_shown (codes "spoof") refl, more)
verdict_shown (verdict.Idle life) rest is more = (word_shown (codes "idle") refl, (number_shown life is, more))
verdict_shown (verdict.Held life message) rest is more =
    (word_shown (codes "held") refl, (number_shown life is.0, (message_shown message is.1, more)))
verdict_shown (verdict.Policed life) rest is more = (word_shown (codes "policed") refl, (number_shown life is, more))

fate_shown : (told : Fate) → IsFate told → AreWords (fate_fields told)
fate_shown (fate.Down life peer octets) is =
    (word_shown (codes "down") refl, (number_shown life is.0, (address_shown peer is.1, (octets_shown octets is.2, tt))))
fate_shown (fate.Policed life) is = (word_shown (codes "policed") refl, (number_shown life is, tt))
fate_shown (fate.Gone life) is = (word_shown (codes "gone") refl, (number_shown life is, tt))

counters_shown : (counters : Counters) (rest : List (List ℕ)) → AreCounters counters → AreWords rest
    → AreWords (counters_fields counters rest)
counters_shown counters rest are more = (
  number_shown counters.life (omega (arith, are.life)),
  (
    number_shown counters.ebi (omega (arith, are.ebi)),
    (
      number_shown counters.qci (omega (arith, are.qci)),
      (
        number_shown counters.seq (omega (arith, are.seq)),
        (
          number_shown counters.up_octets are.up_octets,
          (
            number_shown counters.down_octets are.down_octets,
            (
              number_shown counters.up_packets (omega (arith, are.up_packets)),
              (number_shown counters.down_packets (omega (arith, are.down_packets)), more),
            ),
          ),
        ),
      ),
    ),
  ),
)

effect_shown : (slot command : ℕ) (told : Effect) → IsSlot slot → IsNumber command → IsEffect told
    → AreWords (effect_fields slot command told)
effect_shown slot command (effect.Marker life peer octets) is_slot is_command is = (
  word_shown (codes "M") refl,
  (
    number_shown slot (omega (arith, is_slot)),
    (
      number_shown life is.0,
      (
        number_shown command is_command,
        (address_shown peer is.1, (octets_shown octets is.2, tt)),
      ),
    ),
  ),
)
effect_shown slot command (effect.Fate packet its_fate) is_slot is_command is = (
  word_shown (codes "H") refl,
  (
    number_shown slot (omega (arith, is_slot)),
    (number_shown packet is.0, (number_shown command is_command, fate_shown its_fate is.1)),
  ),
)

charge_shown : (told : ChargeEntry) → IsChargeEntry told → AreWords (charge_fields told)
charge_shown (charge.R slot row) is = (
  word_shown (codes "R") refl,
  (
    number_shown slot (omega (arith, is.0)),
    counters_shown (counters_of row) (ending row) is.1
        (moment_shown row.first is.2, (moment_shown row.last is.3, (why_shown row.why, tt))),
  ),
)
charge_shown (charge.O slot counters) is =
    (word_shown (codes "O") refl, (number_shown slot (omega (arith, is.0)), counters_shown counters [] is.1 tt))

-- fields come apart again
apart : (first : List ℕ) (texts : List (List ℕ)) → AreWords (first ∷ texts)
    → entry_of (joined (first ∷ texts)) ≡ entry_of_fields (first ∷ texts)
apart first texts are = ap entry_of_fields (pieces-joined space first texts (words_lack (first ∷ texts) are))

is_other : (octet : ℕ) → octet ≢ 32 → (octet == 32) ≡ false
is_other octet other = grind (arith, nat_tests)

pieces_prefix : (first rest : List ℕ) → IsWord first → fields_of (first ++ 32 ∷ rest) ≡ first ∷ fields_of rest
pieces_prefix first rest is =
    slice_split_at (λ octet. octet == 32) first 32 rest
    (λ k d inside. is_other (get_or first k d) (word_lacks first is k d inside)) refl

note_read : (told : Noted) → IsEntry (entry.Line (line.N told))
    → entry_of (joined (line_fields (line.N told))) ≡ Some (entry.Line (line.N told))
note_read told is =
    let rest = fields_of told.note in
    let cut = pieces_prefix (codes "N") (joined (decimal told.line ∷ told.note ∷ [])) (word_shown (codes "N") refl) in
    let again = pieces_prefix (decimal told.line) told.note (number_shown told.line is.0) in
    let fields : fields_of (joined (line_fields (line.N told))) ≡ codes "N" ∷ decimal told.line ∷ rest =
    cut ∙ ap (λ t. codes "N" ∷ t) again in
    ap entry_of_fields fields
    ∙ ap (λ noted. option_map (λ n. entry.Line (line.N n)) noted)
    (note_taken told.line rest told.note is.0 (joined-pieces space told.note) is.1)

answer_shown : (told : Answered) → IsAnswered told → AreWords (line_fields (line.C told))
answer_shown told is = (
  word_shown (codes "C") refl,
  (
    number_shown told.line is.line,
    (
      number_shown told.slot (omega (arith, is.slot)),
      (
        number_shown told.number is.number,
        (outcome_shown told.reply.outcome, (message_shown told.reply.message is.message, tt)),
      ),
    ),
  ),
)

judgement_shown : (told : PacketTold) → IsPacketTold told → AreWords (line_fields (line.P told))
judgement_shown told is = (
  word_shown (codes "P") refl,
  (
    number_shown told.line is.line,
    (
      number_shown told.slot (omega (arith, is.slot)),
      (
        number_shown told.number is.number,
        (
          number_shown told.commands is.commands,
          verdict_shown told.verdict (place_fields told.place told.parked) is.verdict
              (places_shown told.place told.parked is.place),
        ),
      ),
    ),
  ),
)

refusal_shown : (told : Refusal) → IsNumber told.line → IsSlot told.slot → AreWords (line_fields (line.F told))
refusal_shown told is_line is_slot = (
  word_shown (codes "F") refl,
  (number_shown told.line is_line, (number_shown told.slot (omega (arith, is_slot)), (refused_shown told.packet, tt))),
)

effect_read : (its_slot command : ℕ) (told : Effect) → IsSlot its_slot → IsNumber command → IsEffect told
    → entry_of (joined (effect_fields its_slot command told))
    ≡ Some (entry.Effect (record { slot = its_slot; command = command; effect = told }))
effect_read its_slot command (effect.Marker life peer octets) is_slot is_command is =
    apart (codes "M") (decimal its_slot ∷ decimal life ∷ decimal command ∷ dotted peer ∷ encode_lower octets ∷ [])
    (effect_shown its_slot command (effect.Marker life peer octets) is_slot is_command is)
    ∙ ap (λ read. option_map (λ (e : Effected). entry.Effect e) read)
    (marker_taken its_slot command life peer octets is_slot is_command is.0 is.1 is.2)
effect_read its_slot command (effect.Fate packet its_fate) is_slot is_command is =
    apart (codes "H") (decimal its_slot ∷ decimal packet ∷ decimal command ∷ fate_fields its_fate)
    (effect_shown its_slot command (effect.Fate packet its_fate) is_slot is_command is)
    ∙ ap (λ read. option_map (λ (e : Effected). entry.Effect e) read)
    (settlement_taken its_slot command packet its_fate is_slot is_command is.0 is.1)

pub entry_read : (told : Entry) → IsEntry told → entry_of (entry_text told) ≡ Some told
entry_read (entry.Line (line.N told)) is = note_read told is
entry_read (entry.Line (line.C told)) is =
    apart (codes "C")
    (decimal told.line ∷ decimal told.slot ∷ decimal told.number ∷ outcome_word told.reply.outcome
    ∷ message_word told.reply.message ∷ [])
    (answer_shown told is)
    ∙ ap (λ answered. option_map (λ a. entry.Line (line.C a)) answered) (answered_taken told is)
entry_read (entry.Line (line.P told)) is =
    apart (codes "P")
    (decimal told.line ∷ decimal told.slot ∷ decimal told.number ∷ decimal told.commands
    ∷ verdict_fields told.verdict (place_fields told.place told.parked))
    (judgement_shown told is)
    ∙ ap (λ judged. option_map (λ j. entry.Line (line.P j)) judged) (judged_taken told is)
entry_read (entry.Line (line.F told)) is =
    apart (codes "F") (decimal told.line ∷ decimal told.slot ∷ refused_word told.packet ∷ [])
    (refusal_shown told is.0 is.1)
    ∙ ap (λ refused. option_map (λ r. entry.Line (line.F r)) refused) (refusal_taken told is.0 is.1)
entry_read (entry.Effect told) is = effect_read told.slot told.command told.effect is.slot is.command is.effect
entry_read (entry.Charge (charge.R slot row)) is =
    apart (codes "R") (decimal slot ∷ row_fields row) (charge_shown (charge.R slot row) is)
    ∙ ap (λ both. option_map (λ r. entry.Charge (charge.R r.0 r.1)) both) (slot_row_taken slot row is)
entry_read (entry.Charge (charge.O slot counters)) is =
    apart (codes "O") (decimal slot ∷ counters_fields counters []) (charge_shown (charge.O slot counters) is)
    ∙ ap (λ both. option_map (λ c. entry.Charge (charge.O c.0 c.1)) both) (slot_open_taken slot counters is)

-- the other way round: a text that is read is the text of what was read
pub record ReadBack (texts : List (List ℕ)) (told : Entry) : Type 0 where
  pub text : joined texts ≡ entry_text told
  pub is_entry : IsEntry told

same_entry : (one other : Entry) → Some one ≡ Some other → one ≡ other
same_entry one other same = cc

mapped : {A : Type 0} (f : A → Entry) (value : Option A) (told : Entry) → option_map f value ≡ Some told → (x : A)
    × (value ≡ Some x) × (f x ≡ told)
mapped f (Some x) told read = (x, refl, same_entry (f x) told read)
mapped f None told read = cc

told_by : (letter word : List ℕ) (texts : List (List ℕ)) (told : Entry) → letter ≡ word
    → joined (word ∷ texts) ≡ entry_text told → IsEntry told
    → ReadBack (letter ∷ texts) told
told_by letter word texts told is text is_entry =
    record { text = ap (λ l. joined (l ∷ texts)) is ∙ text; is_entry = is_entry }

letter_is : (letter known : List ℕ) (texts : List (List ℕ)) (told : Entry) (b : Bool) (here others : Option Entry)
    → bytes_eq letter known ≡ b
    → (here ≡ Some told → ReadBack (known ∷ texts) told) → (others ≡ Some told → ReadBack (letter ∷ texts) told)
    → (if b then here else others) ≡ Some told → ReadBack (letter ∷ texts) told
letter_is letter known texts told true here others test known_then rest read =
    let same : letter ≡ known = (bytes_eq-Decides letter known).0 test in
    let is = known_then read in
    told_by letter known texts told same is.text is.is_entry
letter_is letter known texts told false here others test known_then rest read = rest read

joined_note : (at : ℕ) (rest : List (List ℕ)) (note : List ℕ) → joined rest ≡ note → 0 < length note
    → joined (codes "N" ∷ decimal at ∷ rest) ≡ joined (codes "N" ∷ decimal at ∷ note ∷ [])
joined_note at [] note same some = absurd (omega (arith, ap length same))
joined_note at (text ∷ rest) note same some = ap (λ n. codes "N" ++ 32 ∷ (decimal at ++ 32 ∷ n)) same

n_told : (texts : List (List ℕ)) (told : Entry) → option_map (λ n. entry.Line (line.N n)) (note_of texts)
    ≡ Some told → ReadBack (codes "N" ∷ texts) told
n_told texts told read =
    let some = mapped (λ n. entry.Line (line.N n)) (note_of texts) told read in
    let is = note_given texts some.0 some.1 in
    let same = some.2 in
    rw (← same) (record {
      text = ap (λ t. joined (codes "N" ∷ t)) is.are ∙ joined_note some.0.line is.rest some.0.note is.note is.is_note.0;
      is_entry = (is.is_line, is.is_note);
    })

c_told : (texts : List (List ℕ)) (told : Entry) → option_map (λ a. entry.Line (line.C a)) (answered_of texts)
    ≡ Some told → ReadBack (codes "C" ∷ texts) told
c_told texts told read =
    let some = mapped (λ a. entry.Line (line.C a)) (answered_of texts) told read in
    let is = answered_given texts some.0 some.1 in
    let same = some.2 in
    rw (← same) (record { text = ap joined is.0; is_entry = is.1 })

p_told : (texts : List (List ℕ)) (told : Entry) → option_map (λ j. entry.Line (line.P j)) (judged_of texts)
    ≡ Some told → ReadBack (codes "P" ∷ texts) told
p_told texts told read =
    let some = mapped (λ j. entry.Line (line.P j)) (judged_of texts) told read in
    let is = judged_given texts some.0 some.1 in
    let same = some.2 in
    rw (← same) (record { text = ap joined is.0; is_entry = is.1 })

f_told : (texts : List (List ℕ)) (told : Entry) → option_map (λ r. entry.Line (line.F r)) (refusal_of texts)
    ≡ Some told → ReadBack (codes "F" ∷ texts) told
f_told texts told read =
    let some = mapped (λ r. entry.Line (line.F r)) (refusal_of texts) told read in
    let is = refusal_given texts some.0 some.1 in
    let same = some.2 in
    rw (← same) (record { text = ap joined is.0; is_entry = (is.1, is.2) })

m_told : (texts : List (List ℕ)) (told : Entry) → option_map (λ e. entry.Effect e) (marker_of texts) ≡ Some told
    → ReadBack (codes "M" ∷ texts) told
m_told texts told read =
    let some = mapped (λ (e : Effected). entry.Effect e) (marker_of texts) told read in
    let is = marker_given texts some.0 some.1 in
    let same = some.2 in
    rw (← same) (record { text = ap joined is.0; is_entry = is.1 })

h_told : (texts : List (List ℕ)) (told : Entry) → option_map (λ e. entry.Effect e) (settlement_of texts)
    ≡ Some told → ReadBack (codes "H" ∷ texts) told
h_told texts told read =
    let some = mapped (λ (e : Effected). entry.Effect e) (settlement_of texts) told read in
    let is = settlement_given texts some.0 some.1 in
    let same = some.2 in
    rw (← same) (record { text = ap joined is.0; is_entry = is.1 })

r_told : (texts : List (List ℕ)) (told : Entry) → option_map (λ r. entry.Charge (charge.R r.0 r.1))
    (slot_row texts) ≡ Some told → ReadBack (codes "R" ∷ texts) told
r_told texts told read =
    let some = mapped (λ r. entry.Charge (charge.R r.0 r.1)) (slot_row texts) told read in
    let is = slot_row_given texts some.0 some.1 in
    let same = some.2 in
    rw (← same) (record { text = ap joined is.0; is_entry = is.1 })

o_told : (texts : List (List ℕ)) (told : Entry) → option_map (λ c. entry.Charge (charge.O c.0 c.1))
    (slot_open texts) ≡ Some told → ReadBack (codes "O" ∷ texts) told
o_told texts told read =
    let some = mapped (λ c. entry.Charge (charge.O c.0 c.1)) (slot_open texts) told read in
    let is = slot_open_given texts some.0 some.1 in
    let same = some.2 in
    rw (← same) (record { text = ap joined is.0; is_entry = is.1 })

no_letter : {P : Type 0} (told : Entry) → None ≡ Some told → P
no_letter told read = cc

fields_told : (texts : List (List ℕ)) (told : Entry) → entry_of_fields texts ≡ Some told → ReadBack texts told
fields_told [] told read = cc
fields_told (letter ∷ texts) told read =
    letter_is letter (codes "N") texts told (bytes_eq letter (codes "N")) _ _ refl (n_told texts told)
    (letter_is letter (codes "C") texts told (bytes_eq letter (codes "C")) _ _ refl (c_told texts told)
    (letter_is letter (codes "P") texts told (bytes_eq letter (codes "P")) _ _ refl (p_told texts told)
    (letter_is letter (codes "F") texts told (bytes_eq letter (codes "F")) _ _ refl (f_told texts told)
    (letter_is letter (codes "M") texts told (bytes_eq letter (codes "M")) _ _ refl (m_told texts told)
    (letter_is letter (codes "H") texts told (bytes_eq letter (codes "H")) _ _ refl (h_told texts told)
    (letter_is letter (codes "R") texts told (bytes_eq letter (codes "R")) _ _ refl (r_told texts told)
    (letter_is letter (codes "O") texts told (bytes_eq letter (codes "O")) _ _ refl (o_told texts told)
    (λ none. no_letter told none)))))))) read

pub entry_given : (text : List ℕ) (told : Entry) → entry_of text ≡ Some told → (text ≡ entry_text told) × IsEntry told
entry_given text told read =
    let is = fields_told (fields_of text) told read in
    (sym (joined-pieces space text) ∙ is.text, is.is_entry)

pub text_tells : (one other : Entry) → IsEntry one → IsEntry other → entry_text one ≡ entry_text other → one ≡ other
text_tells one other is also same =
    same_entry one other (sym (entry_read one is) ∙ ap entry_of same ∙ entry_read other also)

-- an entry's text prints
line_prints : (told : LineEntry) → IsLineEntry told → All IsPrintable (joined (line_fields told))
line_prints (line.N told) is =
    spaced (codes "N") (joined (decimal told.line ∷ told.note ∷ [])) (word_shown (codes "N") refl)
    (spaced (decimal told.line) told.note (number_shown told.line is.0) is.1.1)
line_prints (line.C told) is =
    let are = answer_shown told is in
    words_print (codes "C")
    (decimal told.line ∷ decimal told.slot ∷ decimal told.number ∷ outcome_word told.reply.outcome
    ∷ message_word told.reply.message ∷ []) are.0 are.1
line_prints (line.P told) is =
    let are = judgement_shown told is in
    words_print (codes "P")
    (decimal told.line ∷ decimal told.slot ∷ decimal told.number ∷ decimal told.commands
    ∷ verdict_fields told.verdict (place_fields told.place told.parked)) are.0 are.1
line_prints (line.F told) is =
    let are = refusal_shown told is.0 is.1 in
    words_print (codes "F") (decimal told.line ∷ decimal told.slot ∷ refused_word told.packet ∷ []) are.0 are.1

effect_prints : (slot command : ℕ) (told : Effect) → IsSlot slot → IsNumber command → IsEffect told
    → All IsPrintable (joined (effect_fields slot command told))
effect_prints slot command (effect.Marker life peer octets) is_slot is_command is =
    let are = effect_shown slot command (effect.Marker life peer octets) is_slot is_command is in
    words_print (codes "M") (decimal slot ∷ decimal life ∷ decimal command ∷ dotted peer ∷ encode_lower octets ∷ [])
    are.0 are.1
effect_prints slot command (effect.Fate packet its_fate) is_slot is_command is =
    let are = effect_shown slot command (effect.Fate packet its_fate) is_slot is_command is in
    words_print (codes "H") (decimal slot ∷ decimal packet ∷ decimal command ∷ fate_fields its_fate) are.0 are.1

charge_prints : (told : ChargeEntry) → IsChargeEntry told → All IsPrintable (joined (charge_fields told))
charge_prints (charge.R slot row) is =
    let are = charge_shown (charge.R slot row) is in
    words_print (codes "R") (decimal slot ∷ row_fields row) are.0 are.1
charge_prints (charge.O slot counters) is =
    let are = charge_shown (charge.O slot counters) is in
    words_print (codes "O") (decimal slot ∷ counters_fields counters []) are.0 are.1

pub entry_prints : (told : Entry) → IsEntry told → All IsPrintable (entry_text told)
entry_prints (entry.Line told) is = line_prints told is
entry_prints (entry.Effect told) is = effect_prints told.slot told.command told.effect is.slot is.command is.effect
entry_prints (entry.Charge told) is = charge_prints told is

-- an entry without its place
line_shown_is : (told : LineEntry) (places : Bool) → IsLineEntry told → IsLineEntry (line_shown places told)
line_shown_is told true is = is
line_shown_is (line.N told) false is = is
line_shown_is (line.C told) false is = is
line_shown_is (line.P told) false is = record {
  line = is.line;
  slot = is.slot;
  number = is.number;
  commands = is.commands;
  verdict = is.verdict;
  place = tt;
  parked = tt;
}
line_shown_is (line.F told) false is = is

pub shown_is : (told : Entry) (places : Bool) → IsEntry told → IsEntry (shown places told)
shown_is (entry.Line told) places is = line_shown_is told places is
shown_is (entry.Effect told) places is = is
shown_is (entry.Charge told) places is = is
