-- The fields of an entry, and the entry that fields are.
use Rattle.std.proofs.Common.{◌≡◌, ℕ, ◌^◌, ◌-◌, ◌<◌, ◌&&◌, Bool, true, false, List, [], ◌∷◌, ◌++◌, length, get_or, refl, ap, ◌∙◌, arith, append-nil, Option, Some, None, if◌then◌else◌, nat_le, nat_lt}
use Rattle.std.specs.Prelude.{codes, decimal, IfSome}
use Rattle.std.specs.List.{list_all}
use Rattle.std.proofs.lemmas.Bool.Decides.{nat_tests}
use Rattle.std.proofs.lemmas.List.Sums.{list_all-from_AllPass, AllPass-from_list_all}
use Rattle.charging_book.specs.Rows.{Charged, Counters}
use Rattle.charging_book.specs.declared.records.Why.{Why}
use Rattle.pc_base.specs.declared.effect.Effect.TheVariants as effect
use Rattle.pc_base.specs.declared.effect.Fate.{Fate}
use Rattle.text_fields.specs.Address.{address_of, dotted, ◌>>=◌}
use Rattle.text_fields.specs.Fields.{joined}
use Rattle.text_fields.specs.Hexadecimal.{lower_octets_of}
use Rattle.text_fields.proofs.AddressLemmas.{address_read}
use Rattle.text_fields.proofs.DigitLemmas.{number_read}
use Rattle.text_fields.proofs.LowerLemmas.{lower_octets_read}
use Rattle.hex.specs.Hex.{encode_lower}
use Rattle.report_lines.specs.declared.entry.Entry.TheVariants as entry
use Rattle.report_lines.specs.declared.entry.LineEntry.TheVariants as line
use Rattle.report_lines.specs.declared.entry.ChargeEntry.TheVariants as charge
use Rattle.report_lines.specs.declared.entry.Refusal.{Refusal}
use Rattle.report_lines.specs.Ranges.{IsNumber, IsSlot, IsOctets, IsAnswered, IsPacketTold, IsMoment, AreCounters, IsFate, IsEffected, IsEntry}
use Rattle.report_lines.specs.Reading.{next, at_end, any_number, slot, outcome_of, why_of, refused_of, message_of, moment_of, verdict_of, fate_of, place_of, head_of, counters_at, is_note, note_of, answered_of, judged_of, refusal_of, marker_of, settlement_of, row_with, row_of, open_of, slot_row, slot_open}
use Rattle.report_lines.specs.Records.{Noted, Answered, PacketTold, Effected, IsNote, IsPrintable}
use Rattle.report_lines.specs.Text.{line_fields, effect_fields, charge_fields, counters_fields, counters_of, row_fields, ending, verdict_fields, fate_fields, place_fields}
use Rattle.report_lines.specs.Words.{outcome_word, why_word, refused_word, message_word, moment_word}
use Rattle.report_lines.proofs.WordLemmas.{outcome_given, outcome_taken, why_given, why_taken, refused_given, refused_taken, message_taken, moment_given, moment_taken}
use Rattle.report_lines.proofs.FieldLemmas.{bound, next_given, any_given, any_taken, slot_given, address_given, octets_given, messages_given, verdict_given, verdict_taken, fate_given, fate_taken, place_fields_given, place_fields_taken, head_given, head_taken, counters_given, counters_taken}

ended : {A : Type 0} (x y : A) (texts : List (List ℕ)) → at_end x texts ≡ Some y → (x ≡ y) × (texts ≡ [])
ended x y [] read = let same : x ≡ y = cc in (same, refl)
ended x y (text ∷ texts) read = cc

same_some : {A : Type 0} (x y : A) → Some x ≡ Some y → x ≡ y
same_some x y same = cc

-- C
pub answered_given : (texts : List (List ℕ)) (told : Answered) → answered_of texts ≡ Some told
    → (codes "C" ∷ texts ≡ line_fields (line.C told)) × IsAnswered told
answered_given texts told read =
    let head = bound (head_of texts) _ told read in
    let outcome = bound (next outcome_of head.0.1) _ told head.2 in
    let message = bound (next message_of outcome.0.1) _ told outcome.2 in
    let is_head = head_given texts head.0 head.1 in
    let is_outcome = next_given outcome_of outcome_word (λ o. Unit {0})
    (λ text x is. (outcome_given text x is, tt)) head.0.1 outcome.0 outcome.1 in
    let is_message = messages_given outcome.0.1 message.0 message.1 in
    let last = ended _ told message.0.1 message.2 in
    let same = last.0 in
    rw (← same) (
      ap (λ t. codes "C" ∷ t) (is_head.are
          ∙ ap (λ t. decimal head.0.0.0 ∷ decimal head.0.0.1 ∷ decimal head.0.0.2 ∷ t) is_outcome.are
          ∙ ap (λ t. decimal head.0.0.0 ∷ decimal head.0.0.1 ∷ decimal head.0.0.2 ∷ outcome_word outcome.0.0
          ∷ t) is_message.are
          ∙ ap (λ t. decimal head.0.0.0 ∷ decimal head.0.0.1 ∷ decimal head.0.0.2 ∷ outcome_word outcome.0.0
          ∷ message_word message.0.0 ∷ t) last.1),
      record { line = is_head.valid.0; slot = is_head.valid.1; number = is_head.valid.2; message = is_message.valid },
    )

pub answered_taken : (told : Answered) → IsAnswered told
    → answered_of (decimal told.line ∷ decimal told.slot ∷ decimal told.number ∷ outcome_word told.reply.outcome
    ∷ message_word told.reply.message ∷ [])
    ≡ Some told
answered_taken told is =
    let head = head_taken told.line told.slot told.number (outcome_word told.reply.outcome
    ∷ message_word told.reply.message ∷ []) is.line is.slot is.number in
    let outcome = outcome_taken told.reply.outcome in
    let message = message_taken told.reply.message is.message in
    rw (head, outcome, message) refl

-- P
pub judged_given : (texts : List (List ℕ)) (told : PacketTold) → judged_of texts ≡ Some told
    → (codes "P" ∷ texts ≡ line_fields (line.P told)) × IsPacketTold told
judged_given texts told read =
    let head = bound (head_of texts) _ told read in
    let commands = bound (any_number head.0.1) _ told head.2 in
    let its_verdict = bound (verdict_of commands.0.1) _ told commands.2 in
    let place = bound (place_of its_verdict.0.1) _ told its_verdict.2 in
    let is_head = head_given texts head.0 head.1 in
    let is_commands = any_given head.0.1 commands.0 commands.1 in
    let is_verdict = verdict_given commands.0.1 its_verdict.0 its_verdict.1 in
    let is_place = place_fields_given its_verdict.0.1 place.0 place.1 in
    let same = same_some _ told place.2 in
    rw (← same) (
      ap (λ t. codes "P" ∷ t) (is_head.are
          ∙ ap (λ t. decimal head.0.0.0 ∷ decimal head.0.0.1 ∷ decimal head.0.0.2 ∷ t) is_commands.are
          ∙ ap (λ t. decimal head.0.0.0 ∷ decimal head.0.0.1 ∷ decimal head.0.0.2 ∷ decimal commands.0.0
          ∷ t) is_verdict.are
          ∙ ap (λ t. decimal head.0.0.0 ∷ decimal head.0.0.1 ∷ decimal head.0.0.2 ∷ decimal commands.0.0
          ∷ verdict_fields its_verdict.0.0 t) is_place.are),
      record {
        line = is_head.valid.0;
        slot = is_head.valid.1;
        number = is_head.valid.2;
        commands = is_commands.valid;
        verdict = is_verdict.valid;
        place = is_place.place;
        parked = is_place.parked;
      },
    )

pub judged_taken : (told : PacketTold) → IsPacketTold told
    → judged_of (decimal told.line ∷ decimal told.slot ∷ decimal told.number ∷ decimal told.commands
    ∷ verdict_fields told.verdict (place_fields told.place told.parked))
    ≡ Some told
judged_taken told is =
    let head = head_taken told.line told.slot told.number (decimal told.commands
    ∷ verdict_fields told.verdict (place_fields told.place told.parked)) is.line is.slot is.number in
    let commands = number_read 0 (2 ^ 64 - 1) told.commands is.commands (omega arith) (omega (arith, is.commands)) in
    let its_verdict = verdict_taken told.verdict (place_fields told.place told.parked) is.verdict in
    let place = place_fields_taken told.place told.parked is.place is.parked in
    rw (head, commands, its_verdict, place) refl

-- F
pub refusal_given : (texts : List (List ℕ)) (told : Refusal) → refusal_of texts ≡ Some told
    → (codes "F" ∷ texts ≡ line_fields (line.F told)) × IsNumber told.line × IsSlot told.slot
refusal_given texts told read =
    let at = bound (any_number texts) _ told read in
    let its_slot = bound (slot at.0.1) _ told at.2 in
    let what = bound (next refused_of its_slot.0.1) _ told its_slot.2 in
    let is_at = any_given texts at.0 at.1 in
    let is_slot = slot_given at.0.1 its_slot.0 its_slot.1 in
    let is_what = next_given refused_of refused_word (λ p. Unit {0})
    (λ text x is. (refused_given text x is, tt)) its_slot.0.1 what.0 what.1 in
    let last = ended _ told what.0.1 what.2 in
    let same = last.0 in
    rw (← same) (
      ap (λ t. codes "F" ∷ t) (is_at.are ∙ ap (λ t. decimal at.0.0 ∷ t) is_slot.are
          ∙ ap (λ t. decimal at.0.0 ∷ decimal its_slot.0.0 ∷ t) is_what.are
          ∙ ap (λ t. decimal at.0.0 ∷ decimal its_slot.0.0 ∷ refused_word what.0.0 ∷ t) last.1),
      is_at.valid,
      is_slot.valid,
    )

pub refusal_taken : (told : Refusal) → IsNumber told.line → IsSlot told.slot
    → refusal_of (decimal told.line ∷ decimal told.slot ∷ refused_word told.packet ∷ []) ≡ Some told
refusal_taken told is_line is_slot =
    let first = number_read 0 (2 ^ 64 - 1) told.line is_line (omega arith) (omega arith) in
    let second = number_read 0 65532 told.slot (omega arith) (omega arith) is_slot in
    let third = refused_taken told.packet in
    rw (first, second, third) refl

-- M
pub marker_given : (texts : List (List ℕ)) (told : Effected) → marker_of texts ≡ Some told
    → (codes "M" ∷ texts ≡ effect_fields told.slot told.command told.effect) × IsEffected told
marker_given texts told read =
    let its_slot = bound (slot texts) _ told read in
    let life = bound (any_number its_slot.0.1) _ told its_slot.2 in
    let command = bound (any_number life.0.1) _ told life.2 in
    let peer = bound (next address_of command.0.1) _ told command.2 in
    let octets = bound (next lower_octets_of peer.0.1) _ told peer.2 in
    let is_slot = slot_given texts its_slot.0 its_slot.1 in
    let is_life = any_given its_slot.0.1 life.0 life.1 in
    let is_command = any_given life.0.1 command.0 command.1 in
    let is_peer = address_given command.0.1 peer.0 peer.1 in
    let is_octets = octets_given peer.0.1 octets.0 octets.1 in
    let last = ended _ told octets.0.1 octets.2 in
    let same = last.0 in
    rw (← same) (
      ap (λ t. codes "M" ∷ t) (is_slot.are ∙ ap (λ t. decimal its_slot.0.0 ∷ t) is_life.are
          ∙ ap (λ t. decimal its_slot.0.0 ∷ decimal life.0.0 ∷ t) is_command.are
          ∙ ap (λ t. decimal its_slot.0.0 ∷ decimal life.0.0 ∷ decimal command.0.0 ∷ t) is_peer.are
          ∙ ap (λ t. decimal its_slot.0.0 ∷ decimal life.0.0 ∷ decimal command.0.0 ∷ dotted peer.0.0 ∷ t) is_octets.are
          ∙ ap (λ t. decimal its_slot.0.0 ∷ decimal life.0.0 ∷ decimal command.0.0 ∷ dotted peer.0.0
          ∷ encode_lower octets.0.0 ∷ t) last.1),
      record {
        slot = is_slot.valid;
        command = is_command.valid;
        effect = (is_life.valid, is_peer.valid, is_octets.valid);
      },
    )

pub marker_taken : (its_slot command life peer : ℕ) (octets : List ℕ) → IsSlot its_slot → IsNumber command
    → IsNumber life → peer < 2 ^ 32
    → IsOctets octets
    → marker_of (decimal its_slot ∷ decimal life ∷ decimal command ∷ dotted peer ∷ encode_lower octets ∷ [])
    ≡ Some (record { slot = its_slot; command = command; effect = effect.Marker life peer octets })
marker_taken its_slot command life peer octets is_slot is_command is_life is_peer is_octets =
    let first = number_read 0 65532 its_slot (omega (arith, is_slot)) (omega arith) is_slot in
    let second = number_read 0 (2 ^ 64 - 1) life is_life (omega arith) (omega (arith, is_life)) in
    let third = number_read 0 (2 ^ 64 - 1) command is_command (omega arith) (omega (arith, is_command)) in
    let fourth = address_read peer is_peer in
    let fifth = lower_octets_read octets is_octets.0 is_octets.1 in
    rw (first, second, third, fourth, fifth) refl

-- H
append_none : (told : List (List ℕ)) (rest : List (List ℕ)) → rest ≡ [] → told ++ rest ≡ told
append_none told rest none = ap (λ r. told ++ r) none ∙ append-nil told

pub settlement_given : (texts : List (List ℕ)) (told : Effected) → settlement_of texts ≡ Some told
    → (codes "H" ∷ texts ≡ effect_fields told.slot told.command told.effect) × IsEffected told
settlement_given texts told read =
    let its_slot = bound (slot texts) _ told read in
    let packet = bound (any_number its_slot.0.1) _ told its_slot.2 in
    let command = bound (any_number packet.0.1) _ told packet.2 in
    let its_fate = bound (fate_of command.0.1) _ told command.2 in
    let is_slot = slot_given texts its_slot.0 its_slot.1 in
    let is_packet = any_given its_slot.0.1 packet.0 packet.1 in
    let is_command = any_given packet.0.1 command.0 command.1 in
    let is_fate = fate_given command.0.1 its_fate.0 its_fate.1 in
    let last = ended _ told its_fate.0.1 its_fate.2 in
    let same = last.0 in
    rw (← same) (
      ap (λ t. codes "H" ∷ t) (is_slot.are ∙ ap (λ t. decimal its_slot.0.0 ∷ t) is_packet.are
          ∙ ap (λ t. decimal its_slot.0.0 ∷ decimal packet.0.0 ∷ t) is_command.are
          ∙ ap (λ t. decimal its_slot.0.0 ∷ decimal packet.0.0 ∷ decimal command.0.0 ∷ t)
          (is_fate.are ∙ append_none (fate_fields its_fate.0.0) its_fate.0.1 last.1)),
      record { slot = is_slot.valid; command = is_command.valid; effect = (is_packet.valid, is_fate.valid) },
    )

pub settlement_taken : (its_slot command packet : ℕ) (its_fate : Fate) → IsSlot its_slot → IsNumber command
    → IsNumber packet → IsFate its_fate
    → settlement_of (decimal its_slot ∷ decimal packet ∷ decimal command ∷ fate_fields its_fate)
    ≡ Some (record { slot = its_slot; command = command; effect = effect.Fate packet its_fate })
settlement_taken its_slot command packet its_fate is_slot is_command is_packet is_fate =
    let first = number_read 0 65532 its_slot (omega (arith, is_slot)) (omega arith) is_slot in
    let second = number_read 0 (2 ^ 64 - 1) packet is_packet (omega arith) (omega (arith, is_packet)) in
    let third = number_read 0 (2 ^ 64 - 1) command is_command (omega arith) (omega (arith, is_command)) in
    let fourth = fate_taken its_fate is_fate in
    rw (first, second, third, fourth) refl

-- R and O
counters_back : (counters : Counters) (first last : Option ℕ) (why : Why)
    → counters_of (row_with counters first last why) ≡ counters
counters_back counters first last why = refl

row_given : (texts : List (List ℕ)) (told : Charged) → row_of texts ≡ Some told
    → (texts ≡ row_fields told) × AreCounters (counters_of told) × IfSome told.first IsMoment
    × IfSome told.last IsMoment
row_given texts told read =
    let counters = bound (counters_at texts) _ told read in
    let first = bound (next moment_of counters.0.1) _ told counters.2 in
    let second = bound (next moment_of first.0.1) _ told first.2 in
    let why = bound (next why_of second.0.1) _ told second.2 in
    let is_counters = counters_given texts counters.0 counters.1 in
    let is_first = next_given moment_of moment_word (λ m. IfSome m IsMoment)
    (λ text x is. moment_given text x is) counters.0.1 first.0 first.1 in
    let is_second = next_given moment_of moment_word (λ m. IfSome m IsMoment)
    (λ text x is. moment_given text x is) first.0.1 second.0 second.1 in
    let is_why = next_given why_of why_word (λ w. Unit {0})
    (λ text x is. (why_given text x is, tt)) second.0.1 why.0 why.1 in
    let last = ended _ told why.0.1 why.2 in
    let same = last.0 in
    rw (← same) (
      is_counters.are ∙ ap (λ t. counters_fields counters.0.0 t) (is_first.are
          ∙ ap (λ t. moment_word first.0.0 ∷ t) is_second.are
          ∙ ap (λ t. moment_word first.0.0 ∷ moment_word second.0.0 ∷ t) is_why.are
          ∙ ap (λ t. moment_word first.0.0 ∷ moment_word second.0.0 ∷ why_word why.0.0 ∷ t) last.1),
      is_counters.valid,
      is_first.valid,
      is_second.valid,
    )

row_taken : (told : Charged) → AreCounters (counters_of told) → IfSome told.first IsMoment → IfSome told.last IsMoment
    → row_of (row_fields told) ≡ Some told
row_taken told are is_first is_last =
    let counters = counters_taken (counters_of told) (ending told) are in
    let first = moment_taken told.first is_first in
    let second = moment_taken told.last is_last in
    let why = why_taken told.why in
    rw (counters, first, second, why) refl

open_given : (texts : List (List ℕ)) (told : Counters) → open_of texts ≡ Some told
    → (texts ≡ counters_fields told []) × AreCounters told
open_given texts told read =
    let counters = bound (counters_at texts) _ told read in
    let is_counters = counters_given texts counters.0 counters.1 in
    let last = ended _ told counters.0.1 counters.2 in
    let same = last.0 in
    rw (← same) (is_counters.are ∙ ap (λ t. counters_fields counters.0.0 t) last.1, is_counters.valid)

open_taken : (told : Counters) → AreCounters told → open_of (counters_fields told []) ≡ Some told
open_taken told are = rw (counters_taken told [] are) refl

pub slot_row_given : (texts : List (List ℕ)) (told : ℕ × Charged) → slot_row texts ≡ Some told
    → (codes "R" ∷ texts ≡ charge_fields (charge.R told.0 told.1)) × IsEntry (entry.Charge (charge.R told.0 told.1))
slot_row_given texts told read =
    let its_slot = bound (slot texts) _ told read in
    let row = bound (row_of its_slot.0.1) _ told its_slot.2 in
    let is_slot = slot_given texts its_slot.0 its_slot.1 in
    let is_row = row_given its_slot.0.1 row.0 row.1 in
    let same = same_some _ told row.2 in
    rw (← same) (
      ap (λ t. codes "R" ∷ t) (is_slot.are ∙ ap (λ t. decimal its_slot.0.0 ∷ t) is_row.0),
      (is_slot.valid, is_row.1, is_row.2, is_row.3),
    )

pub slot_row_taken : (its_slot : ℕ) (row : Charged) → IsEntry (entry.Charge (charge.R its_slot row))
    → slot_row (decimal its_slot ∷ row_fields row) ≡ Some (its_slot, row)
slot_row_taken its_slot row is =
    let first = number_read 0 65532 its_slot (omega (arith, is.0)) (omega arith) is.0 in
    let second = row_taken row is.1 is.2 is.3 in
    rw (first, second) refl

pub slot_open_given : (texts : List (List ℕ)) (told : ℕ × Counters) → slot_open texts ≡ Some told
    → (codes "O" ∷ texts ≡ charge_fields (charge.O told.0 told.1)) × IsEntry (entry.Charge (charge.O told.0 told.1))
slot_open_given texts told read =
    let its_slot = bound (slot texts) _ told read in
    let counters = bound (open_of its_slot.0.1) _ told its_slot.2 in
    let is_slot = slot_given texts its_slot.0 its_slot.1 in
    let is_counters = open_given its_slot.0.1 counters.0 counters.1 in
    let same = same_some _ told counters.2 in
    rw (← same) (
      ap (λ t. codes "O" ∷ t) (is_slot.are ∙ ap (λ t. decimal its_slot.0.0 ∷ t) is_counters.0),
      (is_slot.valid, is_counters.1),
    )

pub slot_open_taken : (its_slot : ℕ) (counters : Counters) → IsEntry (entry.Charge (charge.O its_slot counters))
    → slot_open (decimal its_slot ∷ counters_fields counters []) ≡ Some (its_slot, counters)
slot_open_taken its_slot counters is =
    let first = number_read 0 65532 its_slot (omega (arith, is.0)) (omega arith) is.0 in
    let second = open_taken counters is.1 in
    rw (first, second) refl

-- N: what stands behind the line
printable_is : (octet : ℕ) → (nat_le 0x20 octet && nat_le octet 0x7e) ≡ true → IsPrintable octet
printable_is octet test = (grind (arith, nat_tests), grind (arith, nat_tests))

printable_passes : (octet : ℕ) → IsPrintable octet → (nat_le 0x20 octet && nat_le octet 0x7e) ≡ true
printable_passes octet is = let low = is.0 in let high = is.1 in grind (arith, nat_tests)

note_parts : (b : Bool) (all : Bool) → (b && all) ≡ true → (b ≡ true) × (all ≡ true)
note_parts true all test = (refl, test)
note_parts false all test = cc

pub note_is : (text : List ℕ) → is_note text ≡ true → IsNote text
note_is text test =
    let parts = note_parts (nat_lt 0 (length text)) (list_all (λ octet. nat_le 0x20 octet
    && nat_le octet 0x7e) text) test in
    let some = parts.0 in
    let all = AllPass-from_list_all (λ octet. nat_le 0x20 octet && nat_le octet 0x7e) text parts.1 in
    (grind (arith, nat_tests), λ k d inside. printable_is (get_or text k d) (all k d inside))

pub is_note_by : (text : List ℕ) → IsNote text → is_note text ≡ true
is_note_by text is =
    let some = is.0 in
    let all = list_all-from_AllPass (λ octet. nat_le 0x20 octet && nat_le octet 0x7e) text
    (λ k d inside. printable_passes (get_or text k d) (is.1 k d inside)) in
    let first : nat_lt 0 (length text) ≡ true = grind (arith, nat_tests) in
    rw (first, all) refl

chosen : (b : Bool) (x y : Noted) → (if b then Some x else None) ≡ Some y → (b ≡ true) × (x ≡ y)
chosen true x y read = (refl, same_some x y read)
chosen false x y read = cc

-- the fields of a note are a line, and what joined is the note
pub record OfNote (texts : List (List ℕ)) (told : Noted) : Type 0 where
  pub rest : List (List ℕ)
  pub are : texts ≡ decimal told.line ∷ rest
  pub note : joined rest ≡ told.note
  pub is_line : IsNumber told.line
  pub is_note : IsNote told.note

pub note_given : (texts : List (List ℕ)) (told : Noted) → note_of texts ≡ Some told → OfNote texts told
note_given texts told read =
    let at = bound (any_number texts) _ told read in
    let is_at = any_given texts at.0 at.1 in
    let last = chosen (is_note (joined at.0.1)) (record { line = at.0.0; note = joined at.0.1 }) told at.2 in
    let same = last.1 in
    let is = note_is (joined at.0.1) last.0 in
    rw (← same) (record { rest = at.0.1; are = is_at.are; note = refl; is_line = is_at.valid; is_note = is })

pub note_taken : (line : ℕ) (rest : List (List ℕ)) (note : List ℕ) → IsNumber line → joined rest ≡ note → IsNote note
    → note_of (decimal line ∷ rest) ≡ Some (record { line = line; note = note })
note_taken line rest note is_line same is =
    let test = ap is_note same ∙ is_note_by note is in
    ap (λ r. r >>= (λ at. if is_note (joined at.1) then Some (record { line = at.0; note = joined at.1 })
    else None)) (any_taken line rest is_line)
    ∙ ap (λ b. if b then Some (record { line = line; note = joined rest }) else None) test
    ∙ ap (λ n. Some (record { line = line; note = n })) same
