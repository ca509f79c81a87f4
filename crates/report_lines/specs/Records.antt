-- What entries tell, as contracts see it, and what each keeps by its type.
use Rattle.std.specs.Prelude.{ℕ, ◌<◌, ◌≤◌, Bool, true, false, List, length, All, Option, None, Some, IfSome}
use Rattle.pc_base.specs.declared.effect.Effect.{Effect}
use Rattle.pc_base.specs.declared.effect.Effect.TheVariants as effect
use Rattle.pc_base.specs.declared.effect.Fate.{Fate}
use Rattle.pc_base.specs.declared.effect.Fate.TheVariants as fate
use Rattle.pc_base.specs.declared.packet.Place.{Place}
use Rattle.pc_base.specs.declared.packet.Verdict.{Verdict}
use Rattle.pc_base.specs.declared.packet.Verdict.TheVariants as verdict
use Rattle.pc_base.specs.declared.reply.Reply.{Reply}

-- a note on a line
pub record Noted : Type 0 where
  pub line : ℕ
  pub note : List ℕ

-- the answer to a command of a slot, by its number there
pub record Answered : Type 0 where
  pub line : ℕ
  pub slot : ℕ
  pub number : ℕ
  pub reply : Reply

-- the verdict on a packet of a slot, behind so many of the slot's commands; where it was handled, and whether it was
-- parked
pub record PacketTold : Type 0 where
  pub line : ℕ
  pub slot : ℕ
  pub number : ℕ
  pub commands : ℕ
  pub verdict : Verdict
  pub place : Option Place
  pub parked : Bool

-- an effect of the slot's command of this number
pub record Effected : Type 0 where
  pub slot : ℕ
  pub command : ℕ
  pub effect : Effect

-- one octet or more
abbrev pub HasOctets : List ℕ → Type 0
HasOctets octets = 0 < length octets

-- printable ASCII, and some
abbrev pub IsPrintable : ℕ → Type 0
IsPrintable octet = (0x20 ≤ octet) × (octet ≤ 0x7e)

abbrev pub IsNote : List ℕ → Type 0
IsNote note = HasOctets note × All IsPrintable note

abbrev pub KeepsReply : Reply → Type 0
KeepsReply reply = IfSome reply.message HasOctets

abbrev pub KeepsVerdict : Verdict → Type 0
KeepsVerdict (verdict.Up life octets) = HasOctets octets
KeepsVerdict (verdict.Down life peer octets) = HasOctets octets
KeepsVerdict verdict.NoBearer = Unit {0}
KeepsVerdict verdict.Spoof = Unit {0}
KeepsVerdict (verdict.Idle life) = Unit {0}
KeepsVerdict (verdict.Held life message) = IfSome message HasOctets
KeepsVerdict (verdict.Policed life) = Unit {0}

abbrev pub KeepsFate : Fate → Type 0
KeepsFate (fate.Down life peer octets) = HasOctets octets
KeepsFate (fate.Policed life) = Unit {0}
KeepsFate (fate.Gone life) = Unit {0}

abbrev pub KeepsEffect : Effect → Type 0
KeepsEffect (effect.Marker life peer octets) = HasOctets octets
KeepsEffect (effect.Fate packet its_fate) = KeepsFate its_fate

-- parked only with a place
abbrev pub KeepsPlace : Bool → Option Place → Type 0
KeepsPlace true None = ⊥
KeepsPlace true (Some place) = Unit {0}
KeepsPlace false place = Unit {0}
