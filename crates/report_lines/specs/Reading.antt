-- The entry that a text is, going along its fields: for the reader's own parts. `Text` and `Ranges` say which entry
-- a text is, and the contract of `read` cites these alone.
use Rattle.std.specs.Prelude.{◌≡◌, ℕ, ◌^◌, ◌-◌, ◌==◌, ◌&&◌, Bool, true, false, List, [], ◌∷◌}
use Rattle.std.specs.Prelude.{length, codes, nat_lt, nat_le, if◌then◌else◌, Option, Some, None, MatchOption}
use Rattle.std.specs.Borrow.{Bor}
use Rattle.std.specs.List.{list_all}
use Rattle.std.specs.Option.{option_map}
use Rattle.std.specs.Str.{bytes_eq}
use Rattle.charging_book.specs.Rows.{Charged, Counters}
use Rattle.charging_book.specs.declared.records.Why.{Why}
use Rattle.charging_book.specs.declared.records.Why.TheVariants.{Volume, Qos, Gone}
use Rattle.pc_base.specs.declared.effect.Effect.TheVariants as effect
use Rattle.pc_base.specs.declared.effect.Fate.{Fate}
use Rattle.pc_base.specs.declared.effect.Fate.TheVariants as fate
use Rattle.pc_base.specs.declared.packet.Place.{Place}
use Rattle.pc_base.specs.declared.packet.Place.TheVariants.{At, Closing}
use Rattle.pc_base.specs.declared.packet.Verdict.{Verdict}
use Rattle.pc_base.specs.declared.packet.Verdict.TheVariants as verdict
use Rattle.pc_base.specs.declared.reply.Outcome.{Outcome}
use Rattle.pc_base.specs.declared.reply.Outcome.TheVariants.{Done, No, Again}
use Rattle.text_fields.specs.Address.{address_of, ◌>>=◌}
use Rattle.text_fields.specs.Fields.{space, pieces_left, joined, fields_of}
use Rattle.text_fields.specs.Hexadecimal.{lower_octets_of}
use Rattle.text_fields.specs.Number.{number_in}
use Rattle.report_lines.specs.declared.entry.Entry.{Entry}
use Rattle.report_lines.specs.declared.entry.Entry.TheVariants as entry
use Rattle.report_lines.specs.declared.entry.LineEntry.TheVariants as line
use Rattle.report_lines.specs.declared.entry.Refusal.{Refusal}
use Rattle.report_lines.specs.declared.entry.ChargeEntry.TheVariants as charge
use Rattle.report_lines.specs.Records.{Noted, Answered, PacketTold, Effected}

-- what was read, with the fields behind it
abbrev pub Taken : Type 0 → Type 0
Taken A = Option (A × List (List ℕ))

abbrev pub with_rest : {A : Type 0} → Option A → List (List ℕ) → Taken A
with_rest None rest = None
with_rest (Some x) rest = Some (x, rest)

-- the value of the next field
abbrev pub next : {A : Type 0} → (List ℕ → Option A) → List (List ℕ) → Taken A
next of [] = None
next of (text ∷ texts) = with_rest (of text) texts

-- what a call that reads on gives
abbrev pub Gives : {A : Type 0} → Option (A × Option (Bor (List ℕ))) → Taken A → Type 0
Gives given taken = MatchOption given (taken ≡ None) (λ r. taken ≡ Some (r.0, pieces_left space r.1))

-- where nothing is left
abbrev pub at_end : {A : Type 0} → A → List (List ℕ) → Option A
at_end x [] = Some x
at_end x (text ∷ texts) = None

abbrev pub number : ℕ → List (List ℕ) → Taken ℕ
number last texts = next (number_in 0 last) texts

abbrev pub any_number : List (List ℕ) → Taken ℕ
any_number texts = number (2 ^ 64 - 1) texts

abbrev pub counted : List (List ℕ) → Taken ℕ
counted texts = number (2 ^ 61) texts

abbrev pub slot : List (List ℕ) → Taken ℕ
slot texts = number 65532 texts

-- single words
abbrev pub outcome_of : List ℕ → Option Outcome
outcome_of text =
    if bytes_eq text (codes "ok") then Some Done
    else if bytes_eq text (codes "no") then Some No
    else if bytes_eq text (codes "again") then Some Again
    else None

abbrev pub why_of : List ℕ → Option Why
why_of text =
    if bytes_eq text (codes "volume") then Some Volume
    else if bytes_eq text (codes "qos") then Some Qos
    else if bytes_eq text (codes "gone") then Some Gone
    else None

abbrev pub refused_of : List ℕ → Option Bool
refused_of text =
    if bytes_eq text (codes "p") then Some true
    else if bytes_eq text (codes "c") then Some false
    else None

abbrev pub message_of : List ℕ → Option (Option (List ℕ))
message_of text = if bytes_eq text (codes "-") then Some None
    else option_map (λ octets. Some octets) (lower_octets_of text)

abbrev pub moment_of : List ℕ → Option (Option ℕ)
moment_of text =
    if bytes_eq text (codes "-") then Some None else option_map (λ moment. Some moment) (number_in 0 (2 ^ 50 - 1) text)

abbrev pub slice_at : List ℕ → Option Place
slice_at text = if bytes_eq text (codes "-") then Some Closing else option_map (λ slice. At slice) (number_in 0 63 text)

abbrev pub place_at : List ℕ → Option Place
place_at [] = None
place_at (octet ∷ text) = if octet == 64 then slice_at text else None

-- the place behind a verdict, and whether the packet was parked
abbrev pub place_of : List (List ℕ) → Option (Option Place × Bool)
place_of [] = Some (None, false)
place_of (at ∷ []) = option_map (λ place. (Some place, false)) (place_at at)
place_of (at ∷ parked ∷ []) =
    if bytes_eq parked (codes "p") then option_map (λ place. (Some place, true)) (place_at at) else None
place_of _ = None

-- a life, an address and octets
abbrev pub down_of : List (List ℕ) → Taken (ℕ × ℕ × List ℕ)
down_of texts = do
  life ← any_number texts
  peer ← next address_of life.1
  octets ← next lower_octets_of peer.1
  Some ((life.0, peer.0, octets.0), octets.1)

abbrev pub up_of : List (List ℕ) → Taken Verdict
up_of texts = do
  life ← any_number texts
  octets ← next lower_octets_of life.1
  Some (verdict.Up life.0 octets.0, octets.1)

abbrev pub held_of : List (List ℕ) → Taken Verdict
held_of texts = do
  life ← any_number texts
  message ← next message_of life.1
  Some (verdict.Held life.0 message.0, message.1)

-- the verdict of a word
abbrev pub verdict_at : List ℕ → List (List ℕ) → Taken Verdict
verdict_at word texts =
    if bytes_eq word (codes "up") then up_of texts
    else if bytes_eq word (codes "down")
    then down_of texts >>= (λ down. Some (verdict.Down down.0.0 down.0.1 down.0.2, down.1))
    else if bytes_eq word (codes "nobearer") then Some (verdict.NoBearer, texts)
    else if bytes_eq word (codes "spoof") then Some (verdict.Spoof, texts)
    else if bytes_eq word (codes "idle") then any_number texts >>= (λ life. Some (verdict.Idle life.0, life.1))
    else if bytes_eq word (codes "held") then held_of texts
    else if bytes_eq word (codes "policed") then any_number texts >>= (λ life. Some (verdict.Policed life.0, life.1))
    else None

abbrev pub verdict_of : List (List ℕ) → Taken Verdict
verdict_of [] = None
verdict_of (word ∷ texts) = verdict_at word texts

abbrev pub fate_at : List ℕ → List (List ℕ) → Taken Fate
fate_at word texts =
    if bytes_eq word (codes "down") then down_of texts >>= (λ down. Some (fate.Down down.0.0 down.0.1 down.0.2, down.1))
    else if bytes_eq word (codes "policed") then any_number texts >>= (λ life. Some (fate.Policed life.0, life.1))
    else if bytes_eq word (codes "gone") then any_number texts >>= (λ life. Some (fate.Gone life.0, life.1))
    else None

abbrev pub fate_of : List (List ℕ) → Taken Fate
fate_of [] = None
fate_of (word ∷ texts) = fate_at word texts

abbrev pub counters_at : List (List ℕ) → Taken Counters
counters_at texts = do
  life ← counted texts
  ebi ← number 255 life.1
  qci ← number 255 ebi.1
  seq ← counted qci.1
  up_octets ← any_number seq.1
  down_octets ← any_number up_octets.1
  up_packets ← counted down_octets.1
  down_packets ← counted up_packets.1
  Some (
    record {
      life = life.0;
      ebi = ebi.0;
      qci = qci.0;
      seq = seq.0;
      up_octets = up_octets.0;
      down_octets = down_octets.0;
      up_packets = up_packets.0;
      down_packets = down_packets.0;
    },
    down_packets.1,
  )

-- a line, a slot, and a number there
abbrev pub head_of : List (List ℕ) → Taken (ℕ × ℕ × ℕ)
head_of texts = do
  at ← any_number texts
  its_slot ← slot at.1
  its_number ← any_number its_slot.1
  Some ((at.0, its_slot.0, its_number.0), its_number.1)

-- the entries
abbrev pub is_printable : List ℕ → Bool
is_printable text = list_all (λ octet. nat_le 0x20 octet && nat_le octet 0x7e) text

abbrev pub is_note : List ℕ → Bool
is_note text = nat_lt 0 (length text) && is_printable text

abbrev pub note_of : List (List ℕ) → Option Noted
note_of texts = any_number texts >>= (λ at. if is_note (joined at.1)
    then Some (record { line = at.0; note = joined at.1 }) else None)

abbrev pub answered_of : List (List ℕ) → Option Answered
answered_of texts = do
  head ← head_of texts
  outcome ← next outcome_of head.1
  message ← next message_of outcome.1
  at_end
      (record {
        line = head.0.0;
        slot = head.0.1;
        number = head.0.2;
        reply = record { outcome = outcome.0; message = message.0 };
      })
      message.1

abbrev pub judged_of : List (List ℕ) → Option PacketTold
judged_of texts = do
  head ← head_of texts
  commands ← any_number head.1
  its_verdict ← verdict_of commands.1
  place ← place_of its_verdict.1
  Some (record {
    line = head.0.0;
    slot = head.0.1;
    number = head.0.2;
    commands = commands.0;
    verdict = its_verdict.0;
    place = place.0;
    parked = place.1;
  })

abbrev pub marker_of : List (List ℕ) → Option Effected
marker_of texts = do
  its_slot ← slot texts
  life ← any_number its_slot.1
  command ← any_number life.1
  peer ← next address_of command.1
  octets ← next lower_octets_of peer.1
  at_end (record { slot = its_slot.0; command = command.0; effect = effect.Marker life.0 peer.0 octets.0 }) octets.1

abbrev pub settlement_of : List (List ℕ) → Option Effected
settlement_of texts = do
  its_slot ← slot texts
  packet ← any_number its_slot.1
  command ← any_number packet.1
  its_fate ← fate_of command.1
  at_end (record { slot = its_slot.0; command = command.0; effect = effect.Fate packet.0 its_fate.0 }) its_fate.1

abbrev pub refusal_of : List (List ℕ) → Option Refusal
refusal_of texts = do
  at ← any_number texts
  its_slot ← slot at.1
  what ← next refused_of its_slot.1
  at_end (record { line = at.0; slot = its_slot.0; packet = what.0 }) what.1

abbrev pub row_with : Counters → Option ℕ → Option ℕ → Why → Charged
row_with counters first last why = record {
  life = counters.life;
  ebi = counters.ebi;
  qci = counters.qci;
  seq = counters.seq;
  up_octets = counters.up_octets;
  down_octets = counters.down_octets;
  up_packets = counters.up_packets;
  down_packets = counters.down_packets;
  first = first;
  last = last;
  why = why;
}

abbrev pub row_of : List (List ℕ) → Option Charged
row_of texts = do
  counters ← counters_at texts
  first ← next moment_of counters.1
  last ← next moment_of first.1
  why ← next why_of last.1
  at_end (row_with counters.0 first.0 last.0 why.0) why.1

abbrev pub open_of : List (List ℕ) → Option Counters
open_of texts = counters_at texts >>= (λ counters. at_end counters.0 counters.1)

-- a slot, and what is charged there
abbrev pub slot_row : List (List ℕ) → Option (ℕ × Charged)
slot_row texts = slot texts >>= (λ its_slot. row_of its_slot.1 >>= (λ row. Some (its_slot.0, row)))

abbrev pub slot_open : List (List ℕ) → Option (ℕ × Counters)
slot_open texts = slot texts >>= (λ its_slot. open_of its_slot.1 >>= (λ counters. Some (its_slot.0, counters)))

-- the entry of a letter
abbrev pub entry_at : List ℕ → List (List ℕ) → Option Entry
entry_at letter texts =
    if bytes_eq letter (codes "N") then option_map (λ noted. entry.Line (line.N noted)) (note_of texts)
    else if bytes_eq letter (codes "C") then option_map (λ answered. entry.Line (line.C answered)) (answered_of texts)
    else if bytes_eq letter (codes "P") then option_map (λ judged. entry.Line (line.P judged)) (judged_of texts)
    else if bytes_eq letter (codes "F") then option_map (λ refused. entry.Line (line.F refused)) (refusal_of texts)
    else if bytes_eq letter (codes "M") then option_map (λ effected. entry.Effect effected) (marker_of texts)
    else if bytes_eq letter (codes "H") then option_map (λ effected. entry.Effect effected) (settlement_of texts)
    else if bytes_eq letter (codes "R") then option_map (λ row. entry.Charge (charge.R row.0 row.1)) (slot_row texts)
    else if bytes_eq letter (codes "O") then option_map (λ counters. entry.Charge (charge.O counters.0 counters.1))
    (slot_open texts)
    else None

abbrev pub entry_of_fields : List (List ℕ) → Option Entry
entry_of_fields [] = None
entry_of_fields (letter ∷ texts) = entry_at letter texts

abbrev pub entry_of : List ℕ → Option Entry
entry_of text = entry_of_fields (fields_of text)
