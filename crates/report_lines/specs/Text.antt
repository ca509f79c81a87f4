-- The one text of an entry.
use Rattle.std.specs.Prelude.{ℕ, Bool, true, false, List, [], ◌∷◌, codes, decimal, Option, None, Some, if◌then◌else◌}
use Rattle.charging_book.specs.Rows.{Charged, Counters}
use Rattle.hex.specs.Hex.{encode_lower}
use Rattle.pc_base.specs.declared.effect.Effect.{Effect}
use Rattle.pc_base.specs.declared.effect.Effect.TheVariants as effect
use Rattle.pc_base.specs.declared.effect.Fate.{Fate}
use Rattle.pc_base.specs.declared.effect.Fate.TheVariants as fate
use Rattle.pc_base.specs.declared.packet.Place.{Place}
use Rattle.pc_base.specs.declared.packet.Verdict.{Verdict}
use Rattle.pc_base.specs.declared.packet.Verdict.TheVariants as verdict
use Rattle.text_fields.specs.Address.{dotted}
use Rattle.text_fields.specs.Fields.{joined}
use Rattle.report_lines.specs.declared.entry.Entry.{Entry}
use Rattle.report_lines.specs.declared.entry.Entry.TheVariants as entry
use Rattle.report_lines.specs.declared.entry.LineEntry.{LineEntry}
use Rattle.report_lines.specs.declared.entry.LineEntry.TheVariants as line
use Rattle.report_lines.specs.declared.entry.ChargeEntry.{ChargeEntry}
use Rattle.report_lines.specs.declared.entry.ChargeEntry.TheVariants as charge
use Rattle.report_lines.specs.Records.{PacketTold}
use Rattle.report_lines.specs.Words.{outcome_word, why_word, message_word, moment_word, place_word, refused_word}

-- a verdict, a fate and a place, each in front of further fields
abbrev pub verdict_fields : Verdict → List (List ℕ) → List (List ℕ)
verdict_fields (verdict.Up life octets) behind = codes "up" ∷ decimal life ∷ encode_lower octets ∷ behind
verdict_fields (verdict.Down life peer octets) behind =
    codes "down" ∷ decimal life ∷ dotted peer ∷ encode_lower octets ∷ behind
verdict_fields verdict.NoBearer behind = codes "nobearer" ∷ behind
verdict_fields verdict.Spoof behind = codes "spoof" ∷ behind
verdict_fields (verdict.Idle life) behind = codes "idle" ∷ decimal life ∷ behind
verdict_fields (verdict.Held life message) behind = codes "held" ∷ decimal life ∷ message_word message ∷ behind
verdict_fields (verdict.Policed life) behind = codes "policed" ∷ decimal life ∷ behind

abbrev pub fate_fields : Fate → List (List ℕ)
fate_fields (fate.Down life peer octets) = codes "down" ∷ decimal life ∷ dotted peer ∷ encode_lower octets ∷ []
fate_fields (fate.Policed life) = codes "policed" ∷ decimal life ∷ []
fate_fields (fate.Gone life) = codes "gone" ∷ decimal life ∷ []

abbrev pub place_fields : Option Place → Bool → List (List ℕ)
place_fields None parked = []
place_fields (Some place) true = place_word place ∷ codes "p" ∷ []
place_fields (Some place) false = place_word place ∷ []

-- which piece of which bearer's life, and what it counts
abbrev pub counters_fields : Counters → List (List ℕ) → List (List ℕ)
counters_fields counters behind =
    decimal counters.life ∷ decimal counters.ebi ∷ decimal counters.qci ∷ decimal counters.seq
    ∷ decimal counters.up_octets ∷ decimal counters.down_octets ∷ decimal counters.up_packets
    ∷ decimal counters.down_packets ∷ behind

-- the counters of a charging record
abbrev pub counters_of : Charged → Counters
counters_of row = record {
  life = row.life;
  ebi = row.ebi;
  qci = row.qci;
  seq = row.seq;
  up_octets = row.up_octets;
  down_octets = row.down_octets;
  up_packets = row.up_packets;
  down_packets = row.down_packets;
}

-- what stands behind the counters of a charging record
abbrev pub ending : Charged → List (List ℕ)
ending row = moment_word row.first ∷ moment_word row.last ∷ why_word row.why ∷ []

abbrev pub row_fields : Charged → List (List ℕ)
row_fields row = counters_fields (counters_of row) (ending row)

abbrev pub line_fields : LineEntry → List (List ℕ)
line_fields (line.N noted) = codes "N" ∷ decimal noted.line ∷ noted.note ∷ []
line_fields (line.C answered) =
    codes "C" ∷ decimal answered.line ∷ decimal answered.slot ∷ decimal answered.number
    ∷ outcome_word answered.reply.outcome
    ∷ message_word answered.reply.message ∷ []
line_fields (line.P judged) =
    codes "P" ∷ decimal judged.line ∷ decimal judged.slot ∷ decimal judged.number ∷ decimal judged.commands
    ∷ verdict_fields judged.verdict (place_fields judged.place judged.parked)
line_fields (line.F refused) =
    codes "F" ∷ decimal refused.line ∷ decimal refused.slot ∷ refused_word refused.packet ∷ []

-- an effect of a slot's command: an End Marker, or what became of a packet that was held
abbrev pub effect_fields : ℕ → ℕ → Effect → List (List ℕ)
effect_fields slot command (effect.Marker life peer octets) =
    codes "M" ∷ decimal slot ∷ decimal life ∷ decimal command ∷ dotted peer ∷ encode_lower octets ∷ []
effect_fields slot command (effect.Fate packet its_fate) =
    codes "H" ∷ decimal slot ∷ decimal packet ∷ decimal command ∷ fate_fields its_fate

abbrev pub charge_fields : ChargeEntry → List (List ℕ)
charge_fields (charge.R slot row) = codes "R" ∷ decimal slot ∷ row_fields row
charge_fields (charge.O slot counters) = codes "O" ∷ decimal slot ∷ counters_fields counters []

abbrev pub entry_fields : Entry → List (List ℕ)
entry_fields (entry.Line of_line) = line_fields of_line
entry_fields (entry.Effect effected) = effect_fields effected.slot effected.command effected.effect
entry_fields (entry.Charge of_charge) = charge_fields of_charge

-- fields with one space between each two
abbrev pub entry_text : Entry → List ℕ
entry_text told = joined (entry_fields told)

-- the entry as it is shown: without its place, where places aren't
abbrev pub without_place : PacketTold → PacketTold
without_place judged = record judged { place = None; parked = false }

abbrev pub line_without_place : LineEntry → LineEntry
line_without_place (line.N noted) = line.N noted
line_without_place (line.C answered) = line.C answered
line_without_place (line.P judged) = line.P (without_place judged)
line_without_place (line.F refused) = line.F refused

abbrev pub line_shown : Bool → LineEntry → LineEntry
line_shown places told = if places then told else line_without_place told

abbrev pub shown : Bool → Entry → Entry
shown places (entry.Line of_line) = entry.Line (line_shown places of_line)
shown places (entry.Effect effected) = entry.Effect effected
shown places (entry.Charge of_charge) = entry.Charge of_charge
