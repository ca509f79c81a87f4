-- The entries that a report can hold: what each keeps, and the ranges of its numbers.
use Rattle.std.specs.Prelude.{ℕ, ◌<◌, ◌≤◌, ◌^◌, List, length, All, IfSome}
use Rattle.charging_book.specs.Rows.{Counters}
use Rattle.pc_base.specs.declared.effect.Effect.{Effect}
use Rattle.pc_base.specs.declared.effect.Effect.TheVariants as effect
use Rattle.pc_base.specs.declared.effect.Fate.{Fate}
use Rattle.pc_base.specs.declared.effect.Fate.TheVariants as fate
use Rattle.pc_base.specs.declared.packet.Place.{Place}
use Rattle.pc_base.specs.declared.packet.Place.TheVariants.{At, Closing}
use Rattle.pc_base.specs.declared.packet.Verdict.{Verdict}
use Rattle.pc_base.specs.declared.packet.Verdict.TheVariants as verdict
use Rattle.report_lines.specs.declared.entry.Entry.{Entry}
use Rattle.report_lines.specs.declared.entry.Entry.TheVariants as entry
use Rattle.report_lines.specs.declared.entry.LineEntry.{LineEntry}
use Rattle.report_lines.specs.declared.entry.LineEntry.TheVariants as line
use Rattle.report_lines.specs.declared.entry.ChargeEntry.{ChargeEntry}
use Rattle.report_lines.specs.declared.entry.ChargeEntry.TheVariants as charge
use Rattle.report_lines.specs.Records.{Answered, PacketTold, Effected, IsNote, KeepsPlace}
use Rattle.report_lines.specs.Text.{counters_of}

-- a number of 64 bits
abbrev pub IsNumber : ℕ → Type 0
IsNumber n = n < 2 ^ 64

abbrev pub IsSlot : ℕ → Type 0
IsSlot slot = slot ≤ 65532

-- one octet or more
abbrev pub IsOctets : List ℕ → Type 0
IsOctets octets = (0 < length octets) × All (λ octet. octet < 256) octets

abbrev pub IsVerdict : Verdict → Type 0
IsVerdict (verdict.Up life octets) = IsNumber life × IsOctets octets
IsVerdict (verdict.Down life peer octets) = IsNumber life × (peer < 2 ^ 32) × IsOctets octets
IsVerdict verdict.NoBearer = Unit {0}
IsVerdict verdict.Spoof = Unit {0}
IsVerdict (verdict.Idle life) = IsNumber life
IsVerdict (verdict.Held life message) = IsNumber life × IfSome message IsOctets
IsVerdict (verdict.Policed life) = IsNumber life

abbrev pub IsFate : Fate → Type 0
IsFate (fate.Down life peer octets) = IsNumber life × (peer < 2 ^ 32) × IsOctets octets
IsFate (fate.Policed life) = IsNumber life
IsFate (fate.Gone life) = IsNumber life

abbrev pub IsPlace : Place → Type 0
IsPlace (At slice) = slice ≤ 63
IsPlace Closing = Unit {0}

-- lives, sequence numbers and packets are counted to 2^61
pub record AreCounters (counters : Counters) : Type 0 where
  pub life : counters.life ≤ 2 ^ 61
  pub ebi : counters.ebi ≤ 255
  pub qci : counters.qci ≤ 255
  pub seq : counters.seq ≤ 2 ^ 61
  pub up_octets : IsNumber counters.up_octets
  pub down_octets : IsNumber counters.down_octets
  pub up_packets : counters.up_packets ≤ 2 ^ 61
  pub down_packets : counters.down_packets ≤ 2 ^ 61

abbrev pub IsMoment : ℕ → Type 0
IsMoment moment = moment < 2 ^ 50

pub record IsAnswered (answered : Answered) : Type 0 where
  pub line : IsNumber answered.line
  pub slot : IsSlot answered.slot
  pub number : IsNumber answered.number
  pub message : IfSome answered.reply.message IsOctets

pub record IsPacketTold (judged : PacketTold) : Type 0 where
  pub line : IsNumber judged.line
  pub slot : IsSlot judged.slot
  pub number : IsNumber judged.number
  pub commands : IsNumber judged.commands
  pub verdict : IsVerdict judged.verdict
  pub place : IfSome judged.place IsPlace
  pub parked : KeepsPlace judged.parked judged.place

abbrev pub IsLineEntry : LineEntry → Type 0
IsLineEntry (line.N noted) = IsNumber noted.line × IsNote noted.note
IsLineEntry (line.C answered) = IsAnswered answered
IsLineEntry (line.P judged) = IsPacketTold judged
IsLineEntry (line.F refused) = IsNumber refused.line × IsSlot refused.slot

abbrev pub IsEffect : Effect → Type 0
IsEffect (effect.Marker life peer octets) = IsNumber life × (peer < 2 ^ 32) × IsOctets octets
IsEffect (effect.Fate packet its_fate) = IsNumber packet × IsFate its_fate

pub record IsEffected (effected : Effected) : Type 0 where
  pub slot : IsSlot effected.slot
  pub command : IsNumber effected.command
  pub effect : IsEffect effected.effect

abbrev pub IsChargeEntry : ChargeEntry → Type 0
IsChargeEntry (charge.R slot row) =
    IsSlot slot × AreCounters (counters_of row) × IfSome row.first IsMoment × IfSome row.last IsMoment
IsChargeEntry (charge.O slot counters) = IsSlot slot × AreCounters counters

abbrev pub IsEntry : Entry → Type 0
IsEntry (entry.Line of_line) = IsLineEntry of_line
IsEntry (entry.Effect effected) = IsEffected effected
IsEntry (entry.Charge of_charge) = IsChargeEntry of_charge
